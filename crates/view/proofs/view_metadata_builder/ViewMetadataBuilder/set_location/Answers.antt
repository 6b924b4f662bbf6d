use Rattle.std.proofs.Common.{◌≡◌, true, false, sym, refl}
use Rattle.model.specs.Bytes.{same_bytes}
use Rattle.text.specs.Meaning.{bytes_of}
use Rattle.text.proofs.Slashes.{trimmed_sound}
use Rattle.fault.specs.Layers.{text_fault}
use Rattle.view.proofs.Readings.{reading}
use Rattle.view.specs.Steps.{with_location}
use Rattle.view.specs.declared.view_update.ViewUpdate.TheVariants.{SetLocation}
use Rattle.view.proofs.Outcomes.{left_by, went, unrecorded, noted}
use Rattle.view.proofs.Location.{location_bad, location_kept, location_new}
use Rattle.view.proofs.view_metadata_builder.ViewMetadataBuilder.set_location.Goals as goal

pub returns-in_err-check : goal.returns-in_err-check
returns-in_err-check g c clock =
    let G = reading g.S.Identified g.S.Numbered g.S.SchemaKind in
    let b = c.args.self.now in
    left_by G _ b c.from_residual.result b text_fault c.from_residual.ensures.1 refl (location_bad G b c.args.location clock (sym c.in_err-check.ensures))

pub returns-then-same : goal.returns-then-same
returns-then-same g c clock =
    let G = reading g.S.Identified g.S.Numbered g.S.SchemaKind in
    let b = c.args.self.now in
    let u = c.without_trailing_slashes-location.result in
    let same : same_bytes (bytes_of b.view.text.now u) (bytes_of b.view.text.now b.view.location) ≡ true = cc in
    went G _ b tt b refl (location_kept G b c.args.location clock u (sym c.in_ok-check.ensures) c.without_trailing_slashes-location.ensures.bytes same)

pub returns-in_err-record : goal.returns-in_err-record
returns-in_err-record g c clock =
    let G = reading g.S.Identified g.S.Numbered g.S.SchemaKind in
    let b = c.args.self.now in
    let u = c.without_trailing_slashes-location.result in
    let e = c.without_trailing_slashes-location.ensures in
    let good = sym c.in_ok-check.ensures in
    let other : same_bytes (bytes_of b.view.text.now u) (bytes_of b.view.text.now b.view.location) ≡ false = cc in
    unrecorded G _ b (SetLocation u) c.record.result c.record.ensures.answer (with_location u b) refl refl
    (location_new G b c.args.location clock u good e.bytes (trimmed_sound b.view.text.now c.args.location u e.place e.length good) other)
    c.from_residual-in_err-record.result _ _ c.in_err-record.was c.from_residual-in_err-record.ensures.1 c.record.ensures.builder

pub returns : goal.returns
returns g c clock =
    let G = reading g.S.Identified g.S.Numbered g.S.SchemaKind in
    let b = c.args.self.now in
    let u = c.without_trailing_slashes-location.result in
    let e = c.without_trailing_slashes-location.ensures in
    let good = sym c.in_ok-check.ensures in
    let other : same_bytes (bytes_of b.view.text.now u) (bytes_of b.view.text.now b.view.location) ≡ false = cc in
    noted G _ b (SetLocation u) c.record.result c.record.ensures.answer (with_location u b) refl refl
    (location_new G b c.args.location clock u good e.bytes (trimmed_sound b.view.text.now c.args.location u e.place e.length good) other)
    tt _ _ c.in_ok-record.was (λ j. with_location u (c.record.ensures.builder j))
