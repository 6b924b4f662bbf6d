-- What a statement did and what was built, in the words that are printed. Assumes nothing.
use Rattle.std.specs.Prelude.{ℕ, List, [], ◌++◌, codes, Result, Ok, Err}
use Rattle.std.specs.Fmt.{decimal, signed_decimal}
use Rattle.fault.specs.Meaning.{fault_of, shown}
use Rattle.fault.specs.declared.fault.Fault.{Fault}
use Rattle.print.specs.Records.{shown_lines, shown_log, shown_pair, shown_schema, shown_version}
use Rattle.schema.specs.declared.sealed.SealedSchema.{SealedSchema}
use Rattle.view.specs.declared.view_metadata.ViewMetadata.{ViewMetadata}
use Rattle.audit.specs.declared.outcome.Done.{Done}
use Rattle.audit.specs.declared.outcome.Done.TheVariants.{Accepted, Schema, Version, NotRun}

-- what a statement that was not refused did
abbrev pub done_words : Done → List ℕ
done_words Accepted = codes "accepted"
done_words (Schema i) = codes "schema " ++ signed_decimal i
done_words (Version i) = codes "version " ++ signed_decimal i
done_words NotRun = codes "not run"

-- what a statement did, or refused NUMBER LETTER POSITION
abbrev pub outcome_words : Result Done Fault → List ℕ
outcome_words (Ok done) = done_words done
outcome_words (Err fault) = codes "refused " ++ shown (fault_of fault)

-- # line N: STATEMENT: what it did
abbrev pub outcome_line : ℕ → List ℕ → Result Done Fault → List ℕ
outcome_line number statement outcome = codes "# line " ++ decimal number ++ codes ": " ++ statement ++ codes ": " ++ outcome_words outcome ++ codes "\n"

-- the lists of built metadata, a record to a line; a property after its word
abbrev pub metadata_lines : List ℕ → ViewMetadata SealedSchema → List ℕ
metadata_lines block m =
    shown_lines [] (shown_schema block) m.schemas.now
    ++ shown_lines [] (shown_version block) m.versions.now
    ++ shown_lines [] (λ e. shown_log e) m.version_log.now
    ++ shown_lines (codes "property ") (shown_pair block) m.properties.now
