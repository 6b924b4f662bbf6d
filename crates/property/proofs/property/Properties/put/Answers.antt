use Rattle.std.proofs.Common.{◌≡◌, false, refl, rules}
use Rattle.register.specs.Tables.{is_full}
use Rattle.text.specs.Properties.{property_of}
use Rattle.property.proofs.Places.{put_over, has_slot, put_between}
use Rattle.property.proofs.property.Properties.put.Goals as goal

pub unwrap-requires : goal.unwrap-requires
unwrap-requires c =
    let b = c.args.block.now in
    let free : is_full c.args.self.now.table ≡ false = has_slot (property_of b) (property_of b c.args.property.now) _ c.bytes-key.ensures c.args.self.now.table _ c.find.ensures c.in-None.is c.requires in
    search rules

pub returns-in-Some-clause-held : goal.returns-in-Some-clause-held
returns-in-Some-clause-held c =
    let b = c.args.block.now in
    put_over (property_of b) (property_of b c.args.property.now) _ c.bytes-key.ensures c.args.self.now.table _ c.find.ensures c.in-Some.i _ _ c.in-Some.is refl

pub returns-in-None-clause-held : goal.returns-in-None-clause-held
returns-in-None-clause-held c =
    let b = c.args.block.now in
    let free = has_slot (property_of b) (property_of b c.args.property.now) _ c.bytes-key.ensures c.args.self.now.table _ c.find.ensures c.in-None.is c.requires in
    put_between (property_of b) (property_of b c.args.property.now) _ c.bytes-key.ensures c.args.self.now.table _ c.find.ensures c.in-None.is _ c.place-at.result _ free c.place-at.ensures refl c.insert.ensures.table
