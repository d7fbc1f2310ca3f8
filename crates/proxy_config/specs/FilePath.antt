-- Keys that are paths of files.
use Rattle.std.specs.Prelude.{ℕ, ◌==◌, List, length, Bool, ◌&&◌, not, nat_le, if◌then◌else◌, Option, Some, None, option_and_then}
use Rattle.std.specs.Prelude.{option_map}
use Rattle.std.specs.List.{list_any}
use Rattle.toml.specs.Data.{Data, as_str}
use Rattle.proxy_config.specs.declared.file_path.TheConstants.{MAX_FILE_PATH}

-- 1 to 4,096 bytes, none of them NUL
abbrev pub is_file_path : List ℕ → Bool
is_file_path path = nat_le 1 (length path) && nat_le (length path) MAX_FILE_PATH && not (list_any (λ byte. byte == 0) path)

-- the path that a text is
abbrev pub path_in : List ℕ → Option (List ℕ)
path_in text = if is_file_path text then Some text else None

-- the path that a key has: that there is none where the key is missing, nothing where its value is no path
abbrev pub path_or_none : Option Data → Option (Option (List ℕ))
path_or_none None = Some None
path_or_none (Some value) = option_map Some (option_and_then path_in (as_str value))
