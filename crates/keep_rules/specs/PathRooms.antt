-- Room for the texts of paths.
use Rattle.std.specs.Prelude.{ℕ, ◌+◌, ◌≤◌, List, length, String, string_bytes, string_capacity}
use Rattle.std.specs.Global.{Global}
use Rattle.keep_path.specs.Path.{Part}
use Rattle.keep_path.specs.PathText.{encoded_path}

-- there is room for as many nodes as the path has steps, and in the text for its bytes
abbrev pub HasRoom : ℕ → String Global → List Part → Type 0
HasRoom nodes out path =
    (length path ≤ nodes) × (length (string_bytes out) + length (encoded_path path) ≤ string_capacity out)
