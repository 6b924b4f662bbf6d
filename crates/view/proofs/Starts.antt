-- Beginning a view and upgrading its format, as the model has them. Assumes nothing.
use Rattle.std.proofs.Common.{◌≡◌, ℕ, Bool, true, false, not, eqb, ℤ, IsErrAnd, Ok, Err, Result, sym, refl, ap, ◌∙◌}
use Rattle.model.specs.Bytes.{Bytes}
use Rattle.model.specs.Refusals as refusals
use Rattle.model.specs.Refusals.{fault, refuse, unknown_format, builder_part}
use Rattle.model.specs.State.{upgrade_format}
use Rattle.model.specs.Start.{to_begin, begin_or_open, empty}
use Rattle.model.specs.Edits.{edit}
use Rattle.fault.specs.declared.fault.Fault.{Fault}
use Rattle.fault.specs.Layers.{text_fault}
use Rattle.fault.specs.Meaning.{fault_of}
use Rattle.view.specs.declared.begin.Beginning.{Beginning}
use Rattle.view.specs.declared.view_metadata_builder.ViewMetadataBuilder.{ViewMetadataBuilder}
use Rattle.view.specs.Beginnings.{begun}
use Rattle.view.specs.Meaning.{Reading, meant, model_of, Applied}
use Rattle.view.proofs.Outcomes.{went}

-- the first test refuses, whatever comes after it
pub refused_first : {A B : Type 0} (t : Bool) (f₁ f₂ : refusals.Fault) (a : A) (r : Result B refusals.Fault) → Err f₂ ≡ refuse t f₁ (Ok a) → refuse t f₁ r ≡ Err f₂
refused_first true f₁ f₂ a r e = let q : f₁ ≡ f₂ = cc in ap Err q
refused_first false f₁ f₂ a r e = absurd (cc)

-- the first test passes, and what comes after it counts
pub passed_first : {A B : Type 0} (t : Bool) (f : refusals.Fault) (a x : A) (r : Result B refusals.Fault) → Ok x ≡ refuse t f (Ok a) → refuse t f r ≡ r
passed_first true f a x r e = absurd (cc)
passed_first false f a x r e = refl

-- the test of a format version
abbrev format_test : ℕ → Result (Unit {0}) refusals.Fault
format_test n = refuse (not (eqb n 1)) (fault unknown_format builder_part) (Ok tt)

module _ {C : Type 0} (n : ℕ) (u : Bytes) (fits : Bool) where
  pub format_refused : (f : refusals.Fault) → Err f ≡ format_test n → begin_or_open {C = C} (to_begin n u (not fits)) ≡ Err f
  unfolding begin_or_open
  format_refused f e = refused_first (not (eqb n 1)) (fault unknown_format builder_part) f tt _ e

  pub block_refused : Ok tt ≡ format_test n → fits ≡ false → begin_or_open {C = C} (to_begin n u (not fits)) ≡ Err text_fault
  unfolding begin_or_open
  block_refused e h = passed_first (not (eqb n 1)) (fault unknown_format builder_part) tt tt _ e ∙ simp h

  pub accepted : Ok tt ≡ format_test n → fits ≡ true → begin_or_open {C = C} (to_begin n u (not fits)) ≡ Ok (empty u)
  unfolding begin_or_open
  accepted e h = passed_first (not (eqb n 1)) (fault unknown_format builder_part) tt tt _ e ∙ simp h

-- the exit of a `?` is a refusal
pub begun_by : {C : Type 0} (s : Result Beginning Fault) (f : refusals.Fault) → IsErrAnd s (λ y. fault_of y ≡ f) → begun {C = C} s ≡ Err f
begun_by (Err y) f e = ap Err e
begun_by (Ok y) f e = absurd e

-- the format that it has, or a refusal; nothing changes
pub format_upgraded : {X : Type 0} (g : Reading X) (b : ViewMetadataBuilder X) (n : ℕ) (clock : ℤ) (r : Result (Unit {0}) Fault) → meant r ≡ format_test n → Applied g (upgrade_format n) clock b r b
unfolding edit
format_upgraded g b n clock (Ok a) e = went g _ b a b refl (passed_first (not (eqb n 1)) (fault unknown_format builder_part) tt a (Ok (model_of g b)) e)
format_upgraded g b n clock (Err f) e = record { as_defined = sym (refused_first (not (eqb n 1)) (fault unknown_format builder_part) (fault_of f) tt (Ok (model_of g b)) e); block = refl; refused = refl }
