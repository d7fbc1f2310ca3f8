-- What is to be sent asks for the options of the service that the configuration has at the point.
use Rattle.std.proofs.Common.{rules, ◌≡◌, ℕ, IfOk, List, Result, Ok, Err, Some, string_bytes}
use Rattle.std.specs.Net.Socket.{v4_port}
use Rattle.icap_client.specs.Asking.{options_request}
use Rattle.proxy_config.specs.declared.config.Config.{Config}
use Rattle.proxy_config.specs.declared.point.ServicePoint.{ServicePoint}
use Rattle.trace_core.specs.declared.history.Point.{Point}
use Rattle.shard_message.specs.Learning.{IsAsking}
use Rattle.shard_message.specs.Planning.{service_of}
use Rattle.shard_message.proofs.options.asker.Goals as goal

-- who asks this service asks that of the point
of_point : {S E : Type 0} (waiting : S → List ℕ) (config_is : Config → Type 0) (config : Config) → config_is config
    → (point : Point) (service : ServicePoint)
    → service_of config point ≡ Some service → (made : Result S E)
    → IfOk made (λ side. waiting side ≡ options_request (string_bytes service.host) (v4_port service.address) (string_bytes service.path))
    → IfOk made (λ side. IsAsking config_is point (waiting side))
of_point waiting config_is config at point service is (Ok side) text = record {
  config = config;
  config_at = at;
  service = service;
  service_is = is;
  text = text;
}
of_point waiting config_is config at point service is (Err fault) text = tt

pub returns-in-Some-clause-asks : goal.returns-in-Some-clause-asks
returns-in-Some-clause-asks g c =
    let is : service_of c.config.result.now c.args.point ≡ Some c.in-Some.service.now = search rules in
    of_point (λ side. side.value.waiting) _ c.config.result.now c.config.ensures c.args.point c.in-Some.service.now is c.asker_of.result
    c.asker_of.ensures.asks
