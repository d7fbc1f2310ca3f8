-- The path was judged.
use Rattle.proxy_config.proofs.services.path.Goals as goal

pub returns-then-branch-clause-good : goal.returns-then-branch-clause-good
returns-then-branch-clause-good c = c.in_ok-is_path.ensures.0 c.if-branch.true
