-- A host was added for each word before the rest.
use Rattle.proxy_config.specs.HostsFile.{words_left}
use Rattle.proxy_config.proofs.NamedHosts.{Adding}
use Rattle.proxy_config.proofs.hosts_file.add_names.Given as goal

abbrev pub invariant-loop-word : goal.invariant-loop-word
invariant-loop-word l = record {
  can : (goal.iterator-loop-word).can_next l.word-iterator;
  ends : (goal.iterator-loop-word).is_finite l.word-iterator;
  rest : Adding l.address (words_left l.fn.words) l.initial.hosts.items (words_left l.word-iterator) l.hosts.items l.is_named;
}
