-- What groups of keys say, one after the other.
use Rattle.std.proofs.Common.{◌≡◌, ℕ, List, [], ◌∷◌, ◌++◌, map, None}
use Rattle.toml.specs.Data.{Members}
use Rattle.proxy_config.specs.Config.{AreSaid, IsConfig}
use Rattle.proxy_config.specs.Groups.{AreSaidOf, HasEntrance, HasOrigins, HasPlaces}
use Rattle.proxy_config.specs.Keys.{Row, entrance_rows, message_rows, of_number, origin_rows, page_rows, place_rows}
use Rattle.proxy_config.specs.Keys.{port_rows, size_rows, time_rows}
use Rattle.proxy_config.specs.Pages.{page_of}
use Rattle.proxy_config.specs.Unknown.{IsUnknown}
use Rattle.proxy_config.specs.declared.config.Config.{Config}
use Rattle.proxy_config.specs.declared.entrance.Entrance.{Entrance}
use Rattle.proxy_config.specs.declared.origins.Origins.{Origins}
use Rattle.proxy_config.specs.declared.places.Places.{Places}

-- values that are said for two lists of keys are said for both joined
said_then : (xs ys : List Row) (document : Members) (config : Config) → AreSaid xs document config → AreSaid ys document config
    → AreSaid (xs ++ ys) document config
said_then [] ys document config first then = then
said_then (row ∷ xs) ys document config first then = (first.0, said_then xs ys document config first.1 then)

-- a configuration that has what the document says for each group of keys is the document's, where no key is unknown
pub is_config : (document : Members) (config : Config) (e : Entrance) (o : Origins) (p : Places)
    → AreSaid port_rows document config → AreSaid (map of_number size_rows) document config → AreSaid message_rows document config
    → AreSaidOf HasEntrance entrance_rows document e → AreSaidOf HasOrigins origin_rows document o
    → AreSaid (map of_number time_rows) document config → AreSaid page_rows document config → AreSaidOf HasPlaces place_rows document p
    → ((key : List ℕ) → IsUnknown document key → ⊥) → ((status : ℕ) → page_of config.pages status ≡ None)
    → HasEntrance config e → HasOrigins config o → HasPlaces config p → IsConfig document config
is_config document config e o p ports sizes messages entrance origins times pages places unknown no_pages has_entrance has_origins
    has_places =
    let of_times : List Row = map of_number time_rows in
    let after_origins : List Row = of_times ++ (page_rows ++ place_rows) in
    let after_messages : List Row = entrance_rows ++ (origin_rows ++ after_origins) in
    let of_sizes : List Row = map of_number size_rows in
    record {
      values =
          said_then port_rows (of_sizes ++ (message_rows ++ after_messages)) document config ports
          (said_then of_sizes (message_rows ++ after_messages) document config sizes
          (said_then message_rows after_messages document config messages
          (said_then entrance_rows (origin_rows ++ after_origins) document config (entrance config has_entrance)
          (said_then origin_rows after_origins document config (origins config has_origins)
          (said_then of_times (page_rows ++ place_rows) document config times
          (said_then page_rows place_rows document config pages (places config has_places)))))));
      none_unknown = unknown;
      no_pages = no_pages;
    }
