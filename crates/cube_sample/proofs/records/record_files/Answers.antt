use Rattle.std.proofs.Common.{◌≡◌, ◌∙◌, ◌+◌, ◌*◌, ◌%◌, ◌++◌, ℕ, rules, sym, refl, ap, arith, codes}
use Rattle.cube_sample.specs.Sample.{drawn, following, month_of, price_line, price_of, product_of, record_line, units_line, units_of}
use Rattle.cube_sample.proofs.Repeating.{grown, none_drawn, none_repeated, one_drawn, record_drawn}
use Rattle.cube_sample.proofs.records.record_files.Goals as goal

pub loop-index-init : goal.loop-index-init
loop-index-init c = (
  sym (none_drawn c.args.size),
  c.new-units_file.ensures.items ∙ sym (none_repeated (units_line c.args.size)),
  c.new-price_file.ensures.items ∙ sym (none_repeated (price_line c.args.size)),
)

pub loop-index-preserved : goal.loop-index-preserved
loop-index-preserved c =
    let (drawn_so_far, units_so_far, prices_so_far) = c.loop-index.invariant in
    let size : ℕ = c.args.size in
    let index : ℕ = c.loop-index._index in
    let at : ℕ = 4 * index in
    let first : c.up_to-product.new.self.last ≡ drawn c.args.size (4 * c.loop-index._index + 1) =
    c.up_to-product.ensures.drawn ∙ ap following drawn_so_far ∙ one_drawn size at (at + 1) (omega arith) in
    let second : c.up_to-month.new.self.last ≡ drawn c.args.size (4 * c.loop-index._index + 2) =
    c.up_to-month.ensures.drawn ∙ ap following first ∙ one_drawn size (at + 1) (at + 2) (omega arith) in
    let third : c.up_to-units.new.self.last ≡ drawn c.args.size (4 * c.loop-index._index + 3) =
    c.up_to-units.ensures.drawn ∙ ap following second ∙ one_drawn size (at + 2) (at + 3) (omega arith) in
    let fourth : c.up_to-price.new.self.last ≡ drawn c.args.size (4 * c.loop-index._index + 4) =
    c.up_to-price.ensures.drawn ∙ ap following third ∙ one_drawn size (at + 3) (at + 4) (omega arith) in
    let product : c.up_to-product.result ≡ product_of c.args.size c.loop-index._index =
    c.up_to-product.ensures.value ∙ ap (λ x. 1 + x % c.products_of-products.result) (sym c.up_to-product.ensures.drawn ∙ first)
    ∙ ap (λ most. 1 + drawn c.args.size (4 * c.loop-index._index + 1) % most) c.products_of-products.ensures in
    let month : c.up_to-month.result ≡ month_of c.args.size c.loop-index._index =
    c.up_to-month.ensures.value ∙ ap (λ x. 1 + x % 12) (sym c.up_to-month.ensures.drawn ∙ second) in
    let units : c.up_to-units.result ≡ units_of c.args.size c.loop-index._index =
    c.up_to-units.ensures.value ∙ ap (λ x. 1 + x % 100) (sym c.up_to-units.ensures.drawn ∙ third) in
    let price : c.up_to-price.result ≡ price_of c.args.size c.loop-index._index =
    c.up_to-price.ensures.value ∙ ap (λ x. 1 + x % 50) (sym c.up_to-price.ensures.drawn ∙ fourth) in
    let units_text : c.write_record.new.out.items ≡ c.loop-index.units_file.items ++ record_line c.up_to-product.result c.up_to-month.result (codes "Units") c.up_to-units.result = search rules in
    let price_text : c.write_record-in-loop-index.new.out.items ≡ c.loop-index.price_file.items ++ record_line c.up_to-product.result c.up_to-month.result (codes "Price") c.up_to-price.result = search rules in
    let units_line_is : record_line c.up_to-product.result c.up_to-month.result (codes "Units") c.up_to-units.result ≡ units_line c.args.size c.loop-index._index =
    rw (product, month, units) refl in
    let price_line_is : record_line c.up_to-product.result c.up_to-month.result (codes "Price") c.up_to-price.result ≡ price_line c.args.size c.loop-index._index =
    rw (product, month, price) refl in (
      fourth ∙ record_drawn c.args.size c.loop-index._index,
      grown (units_line c.args.size) c.loop-index._index _ _ _ units_text units_so_far units_line_is,
      grown (price_line c.args.size) c.loop-index._index _ _ _ price_text prices_so_far price_line_is,
    )
