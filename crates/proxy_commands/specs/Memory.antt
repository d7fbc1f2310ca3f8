-- The memory that a configuration's pages take.
use Rattle.std.specs.Prelude.{ℕ, ◌+◌, ◌*◌}
use Rattle.proxy_config.specs.declared.config.Config.{Config}

-- four pages of 4,096 bytes for each row beside the capacity
abbrev pub memory_of : Config → ℕ
memory_of config = config.capacity + config.rows * 16384
