-- A line more is read at a time, and none is left in the end.
use Rattle.std.proofs.Common.{◌≡◌, ◌+◌, ◌<◌, ◌≤◌, ◌^◌, ℕ, [], ◌∷◌, length, Fits, w64, arith, rules, ap, ◌∙◌}
use Rattle.proxy_config.specs.HostsFile.{lines_left, lines_of, AddsLine}
use Rattle.proxy_config.proofs.ReadLines.{ends, few_lines, reads_one}
use Rattle.proxy_config.proofs.hosts_file.hosts_in.Goals as goal

-- the number of the next line of a text of fewer than 2^63 bytes is one of 64 bits
fits : (number rest lines bytes : ℕ) → number + rest ≡ lines → lines ≤ bytes + 1 → bytes < 2 ^ 63 → Fits w64 (number + 1)
fits number rest lines bytes count few short = omega arith

pub overflow_add-number : goal.overflow_add-number
overflow_add-number c =
    fits c.loop-rest.number (length (lines_left c.loop-rest.rest)) (length (lines_of c.args.text.now)) (length c.args.text.now)
    c.loop-rest.invariant.count (few_lines c.args.text.now) (search rules)

pub loop-rest-preserved : goal.loop-rest-preserved
loop-rest-preserved c =
    let split : lines_left c.loop-rest.rest ≡ c.cut_line.result.0.now ∷ lines_left c.cut_line.result.1 =
    ap lines_left c.in-Some.is ∙ c.cut_line.ensures in
    let added : AddsLine c.cut_line.result.0.now c.loop-rest.hosts.items c.add_line.new.hosts.items = search rules in
    reads_one (lines_of c.args.text.now) (lines_left c.loop-rest.rest) (lines_left c.cut_line.result.1) c.cut_line.result.0.now
    c.loop-rest.hosts.items c.add_line.new.hosts.items c.loop-rest.number c.loop-rest.invariant split added

pub returns-clause-ok : goal.returns-clause-ok
returns-clause-ok c =
    let none : lines_left c.loop-rest.rest ≡ [] = search rules in
    ends (lines_of c.args.text.now) (lines_left c.loop-rest.rest) c.loop-rest.hosts.items c.loop-rest.number c.loop-rest.invariant none
