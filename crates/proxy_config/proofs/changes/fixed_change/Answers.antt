-- The first change of some keys, or else that of those after them, is the first of all.
use Rattle.std.proofs.Common.{◌++◌, List, map}
use Rattle.proxy_config.specs.Changes.{fixed_of}
use Rattle.proxy_config.specs.Keys.{Row, entrance_rows, message_rows, of_number, origin_rows, place_rows, port_rows, size_rows, time_rows}
use Rattle.proxy_config.specs.declared.config.Config.{Config}
use Rattle.proxy_config.proofs.FixedKeys.{first_or}
use Rattle.proxy_config.proofs.changes.fixed_change.Goals as goal

pub returns : goal.returns
returns c =
    let old : Config = c.args.old.now in
    let new : Config = c.args.new.now in
    let to_sizes : List Row = fixed_of port_rows ++ fixed_of (map of_number size_rows) in
    let to_messages : List Row = to_sizes ++ fixed_of message_rows in
    let to_entrance : List Row = to_messages ++ fixed_of entrance_rows in
    let to_origins : List Row = to_entrance ++ fixed_of origin_rows in
    let to_times : List Row = to_origins ++ fixed_of (map of_number time_rows) in
    first_or to_times (fixed_of place_rows) old new c.or-5.result c.change_of_places.result c.or-6.result c.or-6.ensures
    (first_or to_origins (fixed_of (map of_number time_rows)) old new c.or-4.result c.change_of_times.result c.or-5.result c.or-5.ensures
    (first_or to_entrance (fixed_of origin_rows) old new c.or-3.result c.change_of_origins.result c.or-4.result c.or-4.ensures
    (first_or to_messages (fixed_of entrance_rows) old new c.or-2.result c.change_of_entrance.result c.or-3.result c.or-3.ensures
    (first_or to_sizes (fixed_of message_rows) old new c.or.result c.change_of_messages.result c.or-2.result c.or-2.ensures
    (first_or (fixed_of port_rows) (fixed_of (map of_number size_rows)) old new c.change_of_ports.result c.change_of_sizes.result
    c.or.result c.or.ensures c.change_of_ports.ensures c.change_of_sizes.ensures)
    c.change_of_messages.ensures)
    c.change_of_entrance.ensures)
    c.change_of_origins.ensures)
    c.change_of_times.ensures)
    c.change_of_places.ensures
