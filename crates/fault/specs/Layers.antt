-- The faults of each layer as the rules have them. Assumes nothing.
use Rattle.model.specs.Refusals.{Fault, fault, bad_text, limit_reached, changes_part, builder_part}

-- a text of the builder's own is bad
abbrev pub text_fault : Fault
text_fault = fault bad_text builder_part

-- no room for one more change
abbrev pub changes_fault : Fault
changes_fault = fault limit_reached changes_part
