-- The set of lowered names says whether the name is new, and has it afterwards.
use Rattle.std.proofs.Common.{◌≡◌, ap, map, ◌∙◌, string_bytes}
use Rattle.std.specs.Char.{to_ascii_lowercase}
use Rattle.std.specs.Str.{str_to_ascii_lowercase}
use Rattle.proxy_config.proofs.SeenNames.{is_new_name, marks_name}
use Rattle.proxy_config.proofs.hosts.is_new.Goals as goal
use Rattle.proxy_config.proofs.hosts.is_new.Goals.{in-Ok, in-Err}

pub returns-clause-new : goal.returns-clause-new
returns-clause-new c =
    let lowered : string_bytes c.make_ascii_lowercase.new.self ≡ str_to_ascii_lowercase c.args.name.now
    = c.make_ascii_lowercase.ensures.bytes ∙ ap (map to_ascii_lowercase) c.in_ok-lower.ensures.ok in
    elim c.match-insert.branch [
      | in-Ok w ↦ rw w.result-is (is_new_name c.args.seen.now c.make_ascii_lowercase.new.self c.args.name.now w.in-Ok.is_new lowered
          w.in-Ok.ensures.added)
      | in-Err w ↦ rw w.result-is tt
    ]

pub returns-clause-marks : goal.returns-clause-marks
returns-clause-marks c =
    let lowered : string_bytes c.make_ascii_lowercase.new.self ≡ str_to_ascii_lowercase c.args.name.now
    = c.make_ascii_lowercase.ensures.bytes ∙ ap (map to_ascii_lowercase) c.in_ok-lower.ensures.ok in
    elim c.match-insert.branch [
      | in-Ok w ↦ rw w.result-is (marks_name c.args.seen.now c.insert.new.self c.make_ascii_lowercase.new.self c.args.name.now lowered
          w.in-Ok.ensures.updates)
      | in-Err w ↦ rw w.result-is tt
    ]
