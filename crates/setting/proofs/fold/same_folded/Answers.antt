use Rattle.std.proofs.Common.{ℕ, Bool, eqb, sym, ◌∙◌, arith}
use Rattle.std.proofs.lemmas.Bool.{eq-eqb, ne_eqb}
use Rattle.model.specs.Bytes.{fold}
use Rattle.setting.proofs.Folded.{same_mapped, unlike_lengths, same_passed, same_failed, same_ended}
use Rattle.setting.proofs.fold.same_folded.Goals as goal

alike : ℕ → ℕ → Bool
alike x y = eqb (fold x) (fold y)

pub returns-then-a-b : goal.returns-then-a-b
unfolding alike
returns-then-a-b c = sym (same_mapped fold eqb c.args.a.now c.args.b.now ∙ unlike_lengths alike c.args.a.now c.args.b.now c.if-a-b.true)

pub loop-i-init : goal.loop-i-init
loop-i-init c = sym (same_mapped fold eqb c.args.a.now c.args.b.now)

pub returns-then-fold : goal.returns-then-fold
unfolding alike
returns-then-fold c =
    sym (same_failed alike c.args.a.now c.args.b.now c.loop-i.i 0 (omega arith) (omega arith) (ne_eqb _ _ (λ e. c.if-fold.true (c.fold.ensures ∙ (e ∙ sym c.fold-in-loop-i.ensures)))))
    ∙ c.loop-i.invariant

pub loop-i-preserved : goal.loop-i-preserved
unfolding alike
loop-i-preserved c =
    sym (same_passed alike c.args.a.now c.args.b.now c.loop-i.i 0 (omega arith) (omega arith) (eq-eqb _ _ (sym c.fold.ensures ∙ (c.if-fold.false ∙ c.fold-in-loop-i.ensures))))
    ∙ c.loop-i.invariant

pub returns : goal.returns
unfolding alike
returns c = sym (same_ended alike c.args.a.now c.args.b.now c.loop-i.i (omega arith) (omega arith)) ∙ c.loop-i.invariant
