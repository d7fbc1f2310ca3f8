-- `icapd once`.
use Rattle.icap_services.specs.Texts.{Shown}
use Rattle.icapd_commands.specs.Config.{default_tag}
use Rattle.icapd_commands.specs.declared.config.TheConstants.{DEFAULT_MAX, DEFAULT_PREVIEW, DEFAULT_TTL}

-- what answers say of the server if nothing is configured
abbrev pub default_shown : Shown
default_shown = record { istag = default_tag; max = DEFAULT_MAX; ttl = DEFAULT_TTL; preview = DEFAULT_PREVIEW }
