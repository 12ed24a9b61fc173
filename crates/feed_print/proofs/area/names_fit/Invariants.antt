use Rattle.std.proofs.Common.{◌≡◌, drop, take, map, true}
use Rattle.std.specs.List.{list_all}
use Rattle.dim_core.specs.Outline.{name_of}
use Rattle.rule_printer.specs.Writable.{is_quotable}
use Rattle.feed_print.specs.FeederTexts.{fits}
use Rattle.feed_print.proofs.area.names_fit.Given as goal

-- the names so far fit
abbrev pub invariant-each : goal.invariant-each
invariant-each l = record {
  rest : list_all (λ e. fits (name_of l.dimension e)) l.elements
      ≡ list_all (λ e. fits (name_of l.dimension e)) (drop l.element-index l.elements);
  quotable : list_all is_quotable (map (name_of l.dimension) (take l.element-index l.elements)) ≡ true;
}
