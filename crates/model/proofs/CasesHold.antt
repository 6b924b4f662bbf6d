-- The marked cases, by computation. Assumes nothing.
use Rattle.std.proofs.Common.{refl}
use Rattle.model.specs.Edits.{properties_after, after_set_location, after_assign_uuid, after_set_properties, after_remove_properties, after_add_schema, enter, after_add_version, after_set_current, edit}
use Rattle.model.specs.Build.{history_size, places, stays, unexpired, build}
use Rattle.model.specs.Cases.{CasesHold}

pub cases_hold : CasesHold
unfolding properties_after after_set_location after_assign_uuid after_set_properties after_remove_properties after_add_schema enter after_add_version after_set_current edit history_size places stays unexpired build
cases_hold k = record {
  a_minute_early_passes = refl;
  over_a_minute_early = refl;
  size_minus_zero_is_no_number = refl;
  size_minus_one = refl;
  size_zero = refl;
  current_takes_a_place = refl;
  additions_all_stay = refl;
  only_current_stays = refl;
  next_id_is_four = refl;
  log_dropped_up_to_expired = refl;
  schema_minus_one_is_new = refl;
  schema_id_is_reused = refl;
  trailing_slashes_removed = refl;
  dialects_equal_up_to_case = refl;
  current_set_and_set_back = refl;
  no_room_for_a_schema = refl;
  no_room_for_a_version = refl;
  no_room_for_a_property = refl;
  no_room_for_a_change = refl;
  no_room_for_an_entry = refl;
}
