-- A line that begins with another word is bad.
use Rattle.std.proofs.Common.{◌≡◌, ◌∷◌, rules}
use Rattle.proxy_config.specs.HostsFile.{IsIpv6Word, words_left, words_of}
use Rattle.proxy_config.proofs.NamedHosts.{no_entry}
use Rattle.proxy_config.proofs.hosts_file.add_line.Goals as goal

pub returns-in-Err : goal.returns-in-Err
returns-in-Err c =
    let words : words_of c.args.line.now ≡ c.in-Some.first.now ∷ words_left c.next.new.self = search rules in
    let other : IsIpv6Word c.in-Some.first.now → ⊥ = search rules in
    no_entry (words_of c.args.line.now) c.in-Some.first.now (words_left c.next.new.self) words other c.in-Err.ensures
