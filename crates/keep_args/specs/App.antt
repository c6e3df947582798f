-- What `clap` reads of the program's command.
use Rattle.std.specs.Prelude.{◌∷◌, [], List, codes, length, map, take, true}
use Rattle.clap.specs.Walk.{Rule, Text, is_empty}
use Rattle.clap.specs.Simple.{App, Shape, new_app, new_rule, new_shape, on_top}
use Rattle.keep_args.specs.Table.{Row, table}

-- a required word
abbrev pub word_rule : Text → Rule
word_rule id = record (new_rule id) { required = true; value_names = 1 }

-- the words of a subcommand are named by their places
abbrev pub word_ids : List Text
word_ids = codes "first" ∷ codes "second" ∷ []

abbrev pub leaf_of : Row → Shape
leaf_of row = record (new_shape row.name) { rules = map word_rule (take (length row.words) word_ids) }

abbrev pub top_app : App
top_app =
    on_top (λ s. record s { subcommand_required = true; disable_help_subcommand = true; has_version = true })
    (new_app (codes "keep-toml"))

-- the program with these subcommands
abbrev pub app_with : List Row → App
app_with rows = record { top = record top_app.top { is_leaf = is_empty rows }; subs = map leaf_of rows }

abbrev pub program_app : App
program_app = app_with table
