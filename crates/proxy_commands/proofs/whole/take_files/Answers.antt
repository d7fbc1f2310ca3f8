-- The names change no folder of pages.
use Rattle.std.proofs.Common.{subst}
use Rattle.proxy_commands.specs.Whole.{HasPages}
use Rattle.proxy_commands.proofs.WholeForms.{same_folder}
use Rattle.proxy_commands.proofs.whole.take_files.Goals as goal

pub returns-clause-ok : goal.returns-clause-ok
returns-clause-ok g c = record {
  named = c.take_hosts.new.config;
  names = c.in_ok-count.ensures.ok;
  pages = subst (λ folder. HasPages folder c.take_hosts.new.config c.take_pages.new.config) (same_folder _ _ _ _ c.in_ok-count.ensures.ok)
      c.in_ok-take_pages.ensures.ok;
}
