-- The private state of a user's sandbox, while the history goes on.
use Rattle.std.proofs.Common.{◌≡◌, ◌⊎◌, ℕ, ◌≤◌, Bool, true, false, List, [], ◌++◌, length, length-append, append-nil, Option, None, Some, Result, Ok, Err, OnErr, refl, ap, sym, ◌∙◌, subst, arith, inl, inr}
use Rattle.history.specs.declared.entry.Entry.{Entry}
use Rattle.history.specs.Version.{version, content_after}
use Rattle.history.proofs.Runs.{version-append, version-all}
use Rattle.sandbox.specs.declared.open.SandboxOf.{SandboxOf}
use Rattle.sandbox.specs.Sandboxes.{layer_in, IsLaid}
use Rattle.version_book.specs.Lists.{GoesOn}
use Rattle.sessions.specs.Inside.Decided.{layer_left, without_private}
use Rattle.sessions.specs.Sessions.{IsLaidAt}
use Rattle.sessions.specs.declared.own.OwnOf.{OwnOf}

-- what holds in any case holds where there is an error
pub told_if_err : {A E : Type 0} (result : Result A E) (P : Type 0) → P → OnErr result P
told_if_err (Ok x) P holds = tt
told_if_err (Err e) P holds = holds

-- the newest version is the content after all entries
pub version_here : {C T : Type 0} (after : C → T → C) (first : C) (log : List (Entry T)) (place : ℕ) → place ≡ length log → version after first log place ≡ content_after after first log
version_here after first log place here =
    ap (version after first log) here
    ∙ ap (λ xs. version after first xs (length log)) (sym (append-nil log))
    ∙ version-all after first log []

-- the layer that is left of a sandbox which was published, or not
pub layer_left_in : {Y S T : Type 0} (kept : Y → T) (published : Bool) (sandbox : Option (SandboxOf Y S))
    → layer_in kept (layer_left published sandbox) ≡ layer_left published (layer_in kept sandbox)
layer_left_in kept true sandbox = refl
layer_left_in kept false sandbox = refl

layer_without : {Y S T : Type 0} (kept : Y → T) (sandbox : Option (SandboxOf Y S)) → layer_in kept (without_private sandbox) ≡ layer_in kept sandbox
layer_without kept None = refl
layer_without kept (Some sandbox) = refl

module _ {S C T R Y : Type 0} (content : S → C) (after : C → T → C) (unfit : C → T → Option R) (kept : Y → T) where
  laid_without : (below : C) (sandbox : Option (SandboxOf Y S)) → IsLaid content after unfit kept below (without_private sandbox)
  laid_without below None = tt
  laid_without below (Some sandbox) = tt

  laid_left : (below : C) (published : Bool) (sandbox : Option (SandboxOf Y S)) → IsLaid content after unfit kept below sandbox
      → IsLaid content after unfit kept below (layer_left published sandbox)
  laid_left below true sandbox laid = tt
  laid_left below false sandbox laid = laid

  module _ (first : C) where
    -- the history went on
    pub laid_on : (before later more : List (Entry T)) (own : OwnOf Y S) → later ≡ before ++ more → IsLaidAt content after unfit kept first before own
        → IsLaidAt content after unfit kept first later own
    laid_on before later more own is at =
        subst (λ (log : List (Entry T)). IsLaidAt content after unfit kept first log own) (sym is) (record {
          within = omega (arith, at.within, length-append before more);
          laid = subst (λ (below : C). IsLaid content after unfit kept below own.sandbox) (sym (version-append after first before more own.laid_at at.within)) at.laid;
        })

    -- and the sandbox was published, or not
    pub laid_published : (before later more : List (Entry T)) (own next : OwnOf Y S) (published : Bool) → later ≡ before ++ more → next.laid_at ≡ own.laid_at → next.sandbox ≡ layer_left published own.sandbox
        → IsLaidAt content after unfit kept first before own → IsLaidAt content after unfit kept first later next
    laid_published before later more own next published is place sandbox at =
        let on = laid_on before later more own is at in
        record {
          within = omega (arith, on.within, place);
          laid =
              subst (λ (n : ℕ). IsLaid content after unfit kept (version after first later n) next.sandbox) (sym place)
              (subst (λ (s : Option (SandboxOf Y S)). IsLaid content after unfit kept (version after first later own.laid_at) s) (sym sandbox)
              (laid_left (version after first later own.laid_at) published own.sandbox on.laid));
        }

    -- what was laid over another version than the newest serves no longer, and the layer stays
    pub laid_newest : (before later more : List (Entry T)) (own next : OwnOf Y S) (place : ℕ) → later ≡ before ++ more → place ≡ length later
        → ((own.laid_at ≡ place) × (next.sandbox ≡ own.sandbox)) ⊎ (next.sandbox ≡ without_private own.sandbox)
        → IsLaidAt content after unfit kept first before own
        → IsLaid content after unfit kept (content_after after first later) next.sandbox × (layer_in kept next.sandbox ≡ layer_in kept own.sandbox)
    laid_newest before later more own next place is here (inl same) at =
        let on = laid_on before later more own is at in (
          subst (λ (s : Option (SandboxOf Y S)). IsLaid content after unfit kept (content_after after first later) s) (sym same.1)
              (subst (λ (below : C). IsLaid content after unfit kept below own.sandbox) (version_here after first later own.laid_at (same.0 ∙ here)) on.laid),
          ap (layer_in kept) same.1,
        )
    laid_newest before later more own next place is here (inr without) at = (
      subst (λ (s : Option (SandboxOf Y S)). IsLaid content after unfit kept (content_after after first later) s) (sym without) (laid_without (content_after after first later) own.sandbox),
      ap (layer_in kept) without ∙ layer_without kept own.sandbox,
    )

    -- what is laid over the newest version
    pub laid_here : (log : List (Entry T)) (own : OwnOf Y S) (below : C) → own.laid_at ≡ length log → below ≡ content_after after first log
        → IsLaid content after unfit kept below own.sandbox → IsLaidAt content after unfit kept first log own
    laid_here log own below here is laid = record {
      within = omega (arith, here);
      laid = subst (λ (c : C). IsLaid content after unfit kept c own.sandbox) (is ∙ sym (version_here after first log own.laid_at here)) laid;
    }
