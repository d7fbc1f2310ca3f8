-- A sort by the number puts them in its order, and leaves those of one number as they stood.
use Rattle.std.proofs.Common.{rules}
use Rattle.std.proofs.lemmas.List.Sorted.{IsNonDecreasingBy-from_sort_by_key, answers_always}
use Rattle.proxy_config.specs.declared.host.Host.{Host as AnyHost}
use Rattle.proxy_config.proofs.FirstHosts.{first_stays}
use Rattle.proxy_config.proofs.sorting.sorted.Goals as goal

pub invariant_of-result : goal.invariant_of-result
invariant_of-result c = record {
  rising = IsNonDecreasingBy-from_sort_by_key (λ (host : AnyHost). host.number) _ c.in_ok-sort_by_key.ensures.sorted
      (λ a r q k. search rules);
}

pub returns-clause-first : goal.returns-clause-first
returns-clause-first c =
    first_stays c.args.all.items _ c.sort_by_key.ensures.permutation
    (c.sort_by_key.ensures.stable (λ (host : AnyHost). host.number) (answers_always _ _ _ (λ f a r g h. search rules)))
