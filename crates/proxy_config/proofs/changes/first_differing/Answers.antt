-- Neither does this one, where the loop goes on.
use Rattle.std.proofs.Common.{◌+◌, ◌<◌, Some, drop, length, slice_index, ◌∙◌, arith, rules}
use Rattle.proxy_config.specs.Changes.{first_differing}
use Rattle.proxy_config.specs.Numbers.{key_rules}
use Rattle.proxy_config.proofs.NumberChanges.{differing_from, passes_live, passes_same}
use Rattle.proxy_config.proofs.changes.first_differing.Goals as goal
use Rattle.proxy_config.proofs.changes.first_differing.Goals.{else-key-via-then-key+else-old-i, else-key-via-else-key}

pub loop-i-preserved : goal.loop-i-preserved
loop-i-preserved g c =
    let of_keys : c.loop-i.i < length c.args.keys.now = search (rules, arith) in
    let of_old : c.loop-i.i < length c.args.old = search (rules, arith) in
    let of_new : c.loop-i.i < length c.args.new = search (rules, arith) in
    let step = differing_from c.args.keys.now c.args.old c.args.new c.loop-i.i c.index-keys-i.result of_keys of_old of_new
    c.index-keys-i.is in
    let next = c.loop-i.i + 1 in
    let later = first_differing (key_rules (drop next c.args.keys.now)) (drop next c.args.old) (drop next c.args.new) in
    let is_fixed = c.index-keys-i.result.is_fixed in
    let one = slice_index c.args.old c.loop-i.i in
    let other = slice_index c.args.new c.loop-i.i in
    elim c.else-key.branch [
      | else-key-via-then-key+else-old-i w ↦
          c.loop-i.invariant ∙ step ∙ passes_same is_fixed one other (Some c.index-keys-i.result.name.now) later w.if-old-i.false
      | else-key-via-else-key w ↦
          c.loop-i.invariant ∙ step ∙ passes_live is_fixed one other (Some c.index-keys-i.result.name.now) later w.if-key.false
    ]
