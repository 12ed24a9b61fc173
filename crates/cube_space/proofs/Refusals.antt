-- The first cube with a fault, and what it takes to be a space.
use Rattle.std.proofs.Common.{◌≡◌, ℕ, zero, suc, ◌+◌, ◌<◌, ◌≤◌, inl, inr, ◌||◌, Bool, true, false, Option, Some, None, Result, Ok, Err, List, [], length, get_or, map, refl, ap, sym, ◌∙◌, subst, arith, nat_lt, if◌then◌else◌, All, slice_get, slice_index, IsErrAnd}
use Rattle.std.specs.List.{filter_map, range_with_len}
use Rattle.std.proofs.lemmas.Bool.{ltb-false}
use Rattle.std.proofs.lemmas.List.{get_or-map, length-map}
use Rattle.dim_core.specs.Outline.{IsDimension}
use Rattle.cube_space.specs.declared.fault.SpaceFault.{SpaceFault}
use Rattle.cube_space.specs.declared.fault.SpaceFault.TheVariants.{CubeTooLarge, ModelTooLarge, DimensionCount, Memory}
use Rattle.cube_space.specs.declared.shape.CubeShape.{CubeShape}
use Rattle.cube_space.specs.Radix.{product}
use Rattle.cube_space.specs.Layout.{Layout, IsLayout, dims_of, sizes_of, sizes}
use Rattle.cube_space.specs.Cells.{IsSpace, first_cell, cell_count, size_of}
use Rattle.cube_space.specs.Refusal.{fault_of, cube_fault, refusal_of, IsAnsweredBy}
use Rattle.cube_space.proofs.AxisSizes.{sizes-by_counts}

-- the first of the numbers from a on that has a value
first_some : {A : Type 0} (f : ℕ → Option A) (a n i : ℕ) (v : A) → i < n → ((k : ℕ) → k < i → f (a + k) ≡ None) → f (a + i) ≡ Some v → slice_get (filter_map f (range_with_len a n)) 0 ≡ Some v
first_some f a zero i v h before here = absurd (omega arith)
first_some f a (suc n) zero v h before here =
    let e : a + 0 ≡ a = omega arith in
    let first : f a ≡ Some v = rw e at here in
    rw first refl
first_some f a (suc n) (suc i) v h before here =
    let e : a + 0 ≡ a = omega arith in
    let first : f a ≡ None = let b = before 0 (omega arith) in rw e at b in
    let later : a + suc i ≡ a + 1 + i = omega arith in
    rw first
    (first_some f (a + 1) n i v (omega arith) (λ k less. let s : a + suc k ≡ a + 1 + k = omega arith in let b = before (suc k) (omega arith) in rw s at b) (rw later at here))

none_some : {A : Type 0} (f : ℕ → Option A) (a n : ℕ) → ((k : ℕ) → k < n → f (a + k) ≡ None) → slice_get (filter_map f (range_with_len a n)) 0 ≡ None
none_some f a zero before = refl
none_some f a (suc n) before =
    let e : a + 0 ≡ a = omega arith in
    let first : f a ≡ None = let b = before 0 (omega arith) in rw e at b in
    rw first (none_some f (a + 1) n (λ k less. let s : a + suc k ≡ a + 1 + k = omega arith in let b = before (suc k) (omega arith) in rw s at b))

refusal-first : (layout : Layout) (cube : ℕ) (fault : SpaceFault) → cube < length layout.cubes → ((c : ℕ) → c < cube → cube_fault layout c ≡ None) → cube_fault layout cube ≡ Some fault → refusal_of layout ≡ Some fault
unfolding refusal_of
refusal-first layout cube fault h before here =
    let z : (k : ℕ) → 0 + k ≡ k = λ k. omega arith in
    first_some (cube_fault layout) 0 (length layout.cubes) cube fault h (λ k less. ap (cube_fault layout) (z k) ∙ before k less) (ap (cube_fault layout) (z cube) ∙ here)

pub refusal-none : (layout : Layout) → ((c : ℕ) → c < length layout.cubes → cube_fault layout c ≡ None) → refusal_of layout ≡ None
unfolding refusal_of
refusal-none layout before =
    let z : (k : ℕ) → 0 + k ≡ k = λ k. omega arith in
    none_some (cube_fault layout) 0 (length layout.cubes) (λ k less. ap (cube_fault layout) (z k) ∙ before k less)

-- want of memory may always come
pub wanting : (T : Type 0) (cause : Option SpaceFault) → IsAnsweredBy {T = T} cause (Err Memory)
wanting T None = refl
wanting T (Some cause) = inr refl

-- the fault of the first cube that has one is the refusal
pub refused : (A B : Type 0) (layout : Layout) (cube : ℕ) (fault : SpaceFault) → cube < length layout.cubes → ((c : ℕ) → c < cube → cube_fault layout c ≡ None)
    → IsAnsweredBy {T = A} (cube_fault layout cube) (Err fault) → IsAnsweredBy {T = B} (refusal_of layout) (Err fault)
refused A B layout cube fault h before answered = by (cube_fault layout cube) refl answered
  where
    by : (cause : Option SpaceFault) → cube_fault layout cube ≡ cause → IsAnsweredBy {T = A} cause (Err fault) → IsAnsweredBy {T = B} (refusal_of layout) (Err fault)
    by None is memory =
        let P : SpaceFault → Type 0 = λ f. IsAnsweredBy {T = B} (refusal_of layout) (Err f) in
        subst P (sym memory) (wanting B (refusal_of layout))
    by (Some cause) is (inl same) = rw (refusal-first layout cube cause h before is) (inl same)
    by (Some cause) is (inr memory) =
        let P : SpaceFault → Type 0 = λ f. IsAnsweredBy {T = B} (refusal_of layout) (Err f) in
        subst P (sym memory) (wanting B (refusal_of layout))

pub refused-as : (A B : Type 0) (layout : Layout) (cube : ℕ) (fault : SpaceFault) (answer : Result B SpaceFault) → IsErrAnd answer (λ e. e ≡ fault) → cube < length layout.cubes
    → ((c : ℕ) → c < cube → cube_fault layout c ≡ None) → IsAnsweredBy {T = A} (cube_fault layout cube) (Err fault) → IsAnsweredBy {T = B} (refusal_of layout) answer
refused-as A B layout cube fault (Ok x) is h before answered = absurd is
refused-as A B layout cube fault (Err e) is h before answered =
    let P : SpaceFault → Type 0 = λ f. IsAnsweredBy {T = B} (refusal_of layout) (Err f) in
    subst P (sym is) (refused A B layout cube fault h before answered)

-- an Ok has no cause
pub unrefused : {T : Type 0} (cause : Option SpaceFault) (x : T) → IsAnsweredBy cause (Ok x) → cause ≡ None
unrefused None x h = refl
unrefused (Some cause) x h = absurd h

pub answered-ok : {T : Type 0} (layout : Layout) (x : T) → ((c : ℕ) → c < length layout.cubes → cube_fault layout c ≡ None) → IsAnsweredBy (refusal_of layout) (Ok x)
answered-ok layout x before = rw (refusal-none layout before) tt

-- what each test says where no fault comes
passed : (cube : ℕ) (few many large all : Bool) → (if few || many then Some (DimensionCount cube) else if large then Some (CubeTooLarge cube) else if all then Some (ModelTooLarge cube) else None) ≡ None
    → (few ≡ false) × (many ≡ false) × (large ≡ false) × (all ≡ false)
passed cube true many large all h = absurd (cc)
passed cube false true large all h = absurd (cc)
passed cube false false true all h = absurd (cc)
passed cube false false false true h = absurd (cc)
passed cube false false false false h = (refl, refl, refl, refl)

pub no-fault : (cube dimensions cells before : ℕ) → fault_of cube dimensions cells before ≡ None
    → (2 ≤ dimensions) × (dimensions ≤ 16) × (cells ≤ 4611686018427387904) × (before + cells ≤ 4611686018427387904)
no-fault cube dimensions cells before h =
    let tests = passed cube (nat_lt dimensions 2) (nat_lt 16 dimensions) (nat_lt 4611686018427387904 cells) (nat_lt 4611686018427387904 (before + cells)) h in
    (ltb-false _ _ tests.0, ltb-false _ _ tests.1, ltb-false _ _ tests.2, ltb-false _ _ tests.3)

-- the fault of a cube by the counts of all dimensions
pub fault-by_counts : (layout : Layout) (cube first : ℕ) (shape : CubeShape) (counts dims : List ℕ) → IsLayout layout → cube < length layout.cubes → shape ≡ get_or layout.cubes cube shape → dims ≡ shape.dims
    → counts ≡ sizes_of layout.dimensions → first ≡ first_cell layout cube
    → (fault_of cube (length dims) (product (map (slice_index counts) dims)) first ≡ cube_fault layout cube) × (map (slice_index counts) dims ≡ sizes layout cube) × All (λ dim. dim < length counts) dims
unfolding cube_fault
fault-by_counts layout cube first shape counts dims valid h is d counted f =
    let own : dims ≡ dims_of layout cube = d ∙ ap (λ s. s.dims) is ∙ sym (get_or-map (λ s. s.dims) layout.cubes cube shape [] h) in
    let Range : List ℕ → Type 0 = All (λ dim. dim < length layout.dimensions) in
    let shaped : (get_or layout.cubes cube shape).dims ≡ dims_of layout cube = sym (get_or-map (λ s. s.dims) layout.cubes cube shape [] h) in
    let range = subst Range shaped (valid.in_range cube shape h) in
    let count : length counts ≡ length layout.dimensions = ap length counted ∙ length-map layout.dimensions (λ dimension. length dimension.elements) in
    let sized : map (slice_index counts) dims ≡ sizes layout cube =
    ap (map (slice_index counts)) own ∙ ap (λ cs. map (slice_index cs) (dims_of layout cube)) counted ∙ sizes-by_counts layout.dimensions (dims_of layout cube) range in
    let mine = subst Range (sym own) range in (
      ap (λ n. fault_of cube n (product (map (slice_index counts) dims)) first) (ap length own)
          ∙ ap (λ ss. fault_of cube (length (dims_of layout cube)) (product ss) first) sized
          ∙ ap (fault_of cube (length (dims_of layout cube)) (cell_count layout cube)) f,
      sized,
      λ k e less. omega (arith, mine k e less, count),
    )

-- dimensions and cubes without a fault are a space
pub space-from : (layout : Layout) → IsLayout layout → All IsDimension layout.dimensions → ((c : ℕ) → c < length layout.cubes → cube_fault layout c ≡ None) → size_of layout ≤ 4611686018427387904 → IsSpace layout
unfolding cube_fault
space-from layout valid dimensions none size = record {
  layout = valid;
  dimensions = dimensions;
  counts = λ cube shape h.
      let own = no-fault cube (length (dims_of layout cube)) (cell_count layout cube) (first_cell layout cube) (none cube h) in
      let dims : dims_of layout cube ≡ (get_or layout.cubes cube shape).dims = get_or-map (λ s. s.dims) layout.cubes cube shape [] h in
      let count = ap length dims in
      (omega (arith, own.0, count), omega (arith, own.1, count));
  size = size;
}
