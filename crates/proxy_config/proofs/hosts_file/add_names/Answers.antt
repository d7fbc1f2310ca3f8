-- Each word that is UTF-8 is a name.
use Rattle.std.proofs.Common.{◌≡◌, ◌∷◌, ◌++◌, rules, ap, ◌∙◌}
use Rattle.proxy_config.specs.HostsFile.{words_left}
use Rattle.proxy_config.proofs.NamedHosts.{adds_one, names_of, no_name}
use Rattle.proxy_config.proofs.hosts_file.add_names.Goals as goal

pub returns-in_default : goal.returns-in_default
returns-in_default c = λ hosts some are.
    let adding = c.loop-word.invariant.rest in
    let word : words_left c.loop-word.word-iterator ≡ c.in-Some.word.now ∷ words_left c.next.new.self = search rules in
    no_name (names_of adding.added) c.in-Some.word.now (words_left c.next.new.self) hosts c.in_default.ensures.cases.0
    (are ∙ adding.are ∙ ap (λ ws. names_of adding.added ++ ws) word)

pub loop-word-preserved : goal.loop-word-preserved
loop-word-preserved c =
    let word : words_left c.loop-word.word-iterator ≡ c.in-Some.word.now ∷ words_left c.next.new.self = search rules in
    record {
      can = tt;
      ends = tt;
      rest = adds_one c.args.address (words_left c.args.words) c.args.hosts.now.items c.in-Some.word.now
          (words_left c.loop-word.word-iterator) (words_left c.next.new.self)
          c.loop-word.hosts.items c.push.new.self.items c.loop-word.is_named c.loop-word.invariant.rest word c.in_ok-host.host
          (search rules) (search rules) (search rules);
    }
