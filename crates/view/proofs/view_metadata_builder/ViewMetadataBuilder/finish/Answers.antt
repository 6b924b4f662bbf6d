use Rattle.std.proofs.Common.{map, drop, sym, ap, ◌∙◌, w32, rules}
use Rattle.std.proofs.lemmas.Int.{to_z-of_z}
use Rattle.model.specs.Build.{kept_log, how_many_to_keep}
use Rattle.register.specs.Tables.{held_in}
use Rattle.version.specs.Meaning.{entry_of}
use Rattle.expiry.specs.Expiry.{holding, unexpired_by}
use Rattle.view.proofs.Builds.{finishes}
use Rattle.view.proofs.view_metadata_builder.ViewMetadataBuilder.finish.Goals as goal

pub returns : goal.returns
returns g c =
    let m = c.add_history_entry.new.self in
    let size = c.history_size-size.result in
    let added = c.num_added_versions-added.result in
    let from = c.update_version_log-from.result in
    finishes g.S.Identified g.S.Numbered g.S.SchemaKind c.args.self.now m c.add_history_entry.ensures size added c.history_size-size.ensures c.num_added_versions-added.ensures
    c.expire_versions.new.table
    (c.expire_versions.ensures ∙ ap (λ i. holding m.view.versions.table (unexpired_by (λ v. v.version_id) (held_in m.view.versions.table) i (how_many_to_keep size added) added)) (to_z-of_z w32 m.view.current_version_id (search rules)))
    c.requires c.keep_from.new.self from c.keep_from.ensures
    (ap (λ es. map entry_of (drop from es)) (sym c.items.ensures) ∙ (c.update_version_log-from.ensures.entries ∙ (λ j. kept_log (map (λ v. v.version_id) (c.items-2.ensures j)) (map entry_of (c.items.ensures j)))))
