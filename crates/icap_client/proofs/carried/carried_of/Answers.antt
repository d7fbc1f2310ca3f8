-- Each field adds its line, or none.
use Rattle.std.proofs.Common.{◌<◌, length, map, string_bytes, rules}
use Rattle.icap_head.specs.Fields.{field_list}
use Rattle.icap_client.proofs.CarriedLines.{carried_more}
use Rattle.icap_client.proofs.carried.carried_of.Goals as goal

pub loop-at-preserved : goal.loop-at-preserved
loop-at-preserved c =
    let inside : c.loop-at.at < length (field_list c.args.fields.now) = search rules in
    search (rules, carried_more (map string_bytes c.args.names.now) (field_list c.args.fields.now) c.loop-at.at inside)
