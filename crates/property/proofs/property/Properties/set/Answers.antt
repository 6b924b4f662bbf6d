use Rattle.std.proofs.Common.{map, drop, ◌+◌, ap, ◌∙◌, Ok, sym, arith}
use Rattle.std.proofs.lemmas.List.{at_drop_all}
use Rattle.model.specs.Edits.{put_properties}
use Rattle.text.specs.Properties.{property_of}
use Rattle.property.specs.Meaning.{properties_of, room_of}
use Rattle.property.proofs.Decided.{accepted}
use Rattle.property.proofs.Effects.{next_put, next_fits}
use Rattle.property.proofs.Rests.{keeps_on}
use Rattle.property.proofs.property.Properties.set.Goals as goal

pub put-requires : goal.put-requires
put-requires c =
    let ok = accepted c.args.block.now c.args.updates.now c.args.self.now c.in_ok-plan.ensures in
    next_fits (property_of c.args.block.now) c.args.updates.now c.loop-p.p-index _ (properties_of c.args.block.now c.loop-p.self) _ (room_of c.loop-p.self) c.loop-p-test.true
    c.loop-p.invariant.left (omega (arith, ok.1, c.loop-p.invariant.rest.room))

pub loop-p-preserved : goal.loop-p-preserved
loop-p-preserved c =
    let f = property_of c.args.block.now in
    record {
      left =
          ap (put_properties (map f (drop (c.loop-p.p-index + 1) c.args.updates.now))) c.put.ensures.held
          ∙ (next_put f c.args.updates.now c.loop-p.p-index _ (properties_of c.args.block.now c.loop-p.self) c.loop-p-test.true ∙ c.loop-p.invariant.left);
      rest = keeps_on c.args.self.now c.loop-p.self c.put.new.self c.loop-p.invariant.rest c.put.ensures.rest;
    }

pub returns-clause-answer : goal.returns-clause-answer
returns-clause-answer c =
    let f = property_of c.args.block.now in
    let ok = accepted c.args.block.now c.args.updates.now c.args.self.now c.in_ok-plan.ensures in
    let all = at_drop_all (λ xs. put_properties (map f xs) (properties_of c.args.block.now c.loop-p.self)) c.args.updates.now c.loop-p.p-index c.loop-p-test.false in
    ap Ok (sym all ∙ c.loop-p.invariant.left) ∙ sym ok.0
