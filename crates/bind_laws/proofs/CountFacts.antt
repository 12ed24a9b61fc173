-- What a formula reads, and its operands, are counted so.
use Rattle.std.proofs.Common.{◌+◌, ℕ, length, ap, ◌∙◌, length-append, ◌++◌, arith}
use Rattle.rule_laws.specs.Meaning.{precedents, truth_precedents}
use Rattle.rule_laws.specs.ZeroTest.{operands_step, truth_operands_step, operands, operands_of_truth}
use Rattle.rule_laws.proofs.FormulaFolds.{of-number, of-stet, of-continue, of-children, of-ref, of-table, of-binary, of-unary, of-if, of-compare, of-and, of-or, of-not}
use Rattle.rule_laws.proofs.PrecedentFacts.{number_reads, stet_reads, continue_reads, children_reads, reference_reads, table_reads, binary_reads, unary_reads, if_reads, compare_reads, and_reads, or_reads, not_reads}
use Rattle.bind_laws.proofs.FormulaSizes.{IsCount}

pub reads_count : IsCount (λ f. length (precedents f)) (λ q. length (truth_precedents q))
reads_count = record {
  number = λ k. omega (arith, ap length (number_reads k));
  stet = omega (arith, ap length stet_reads);
  continue = omega (arith, ap length continue_reads);
  children = λ dim. omega (arith, ap length (children_reads dim));
  reference = λ r. omega (arith, ap length (reference_reads r));
  table = λ place table. omega (arith, ap length (table_reads place table));
  binary = λ op a b. ap length (binary_reads op a b) ∙ length-append (precedents a) (precedents b);
  unary = λ function a. ap length (unary_reads function a);
  choice = λ q a b. ap length (if_reads q a b) ∙ length-append (truth_precedents q ++ precedents a) (precedents b) ∙ ap (λ n. n + length (precedents b)) (length-append (truth_precedents q) (precedents a));
  compare = λ rel a b. ap length (compare_reads rel a b) ∙ length-append (precedents a) (precedents b);
  both = λ p q. ap length (and_reads p q) ∙ length-append (truth_precedents p) (truth_precedents q);
  either = λ p q. ap length (or_reads p q) ∙ length-append (truth_precedents p) (truth_precedents q);
  opposite = λ q. ap length (not_reads q);
}

pub operands_count : IsCount operands operands_of_truth
operands_count = record {
  number = λ k. omega (arith, of-number ℕ ℕ operands_step truth_operands_step k);
  stet = omega (arith, of-stet ℕ ℕ operands_step truth_operands_step);
  continue = omega (arith, of-continue ℕ ℕ operands_step truth_operands_step);
  children = λ dim. omega (arith, of-children ℕ ℕ operands_step truth_operands_step dim);
  reference = λ r. omega (arith, of-ref ℕ ℕ operands_step truth_operands_step r);
  table = λ place table. omega (arith, of-table ℕ ℕ operands_step truth_operands_step place table);
  binary = λ op a b. of-binary ℕ ℕ operands_step truth_operands_step op a b;
  unary = λ function a. of-unary ℕ ℕ operands_step truth_operands_step function a;
  choice = λ q a b. of-if ℕ ℕ operands_step truth_operands_step q a b;
  compare = λ rel a b. of-compare ℕ ℕ operands_step truth_operands_step rel a b;
  both = λ p q. of-and ℕ ℕ operands_step truth_operands_step p q;
  either = λ p q. of-or ℕ ℕ operands_step truth_operands_step p q;
  opposite = λ q. of-not ℕ ℕ operands_step truth_operands_step q;
}
