-- The numbers of the faults of records and registers. Assumes nothing.
use Rattle.std.specs.Prelude.{ℕ, Some, None, Ok, Err, Option, Result}
use Rattle.model.specs.Refusals.{bad_text, non_ascii_dialect, malformed, no_id_left, limit_reached}
use Rattle.register.specs.declared.fault.RecordFault.{RecordFault}
use Rattle.register.specs.declared.fault.RecordFault.TheVariants.{TooMany, BadText, NonAsciiDialect, Malformed}
use Rattle.register.specs.declared.fault.RegisterFault.{RegisterFault}
use Rattle.register.specs.declared.fault.RegisterFault.TheVariants.{NoIdLeft, Full}

-- the number of a record's fault
abbrev pub record_number : RecordFault → ℕ
record_number TooMany = limit_reached
record_number BadText = bad_text
record_number NonAsciiDialect = non_ascii_dialect
record_number Malformed = malformed

-- the number of a register's fault
abbrev pub register_number : RegisterFault → ℕ
register_number NoIdLeft = no_id_left
register_number Full = limit_reached

-- the number that a record's tests refused it with, none where they passed
abbrev pub refused_with : {A : Type 0} → Result A RecordFault → Option ℕ
refused_with (Ok a) = None
refused_with (Err f) = Some (record_number f)
