-- The kinds of values. (TOML 1.0.0: the values of `val`.)
use Rattle.keep_types.specs.declared.leaf.Leaf.{Leaf}
use Rattle.keep_types.specs.declared.leaf.Leaf.TheVariants as leaf
use Rattle.keep_types.specs.declared.node.Kind.{Kind}
use Rattle.keep_types.specs.declared.node.Kind.TheVariants as kind

-- the kind of the value that begins with this leaf
abbrev pub leaf_kind : Leaf → Kind
leaf_kind leaf.Basic = kind.Str
leaf_kind leaf.Literal = kind.Str
leaf_kind leaf.MlBasic = kind.Str
leaf_kind leaf.MlLiteral = kind.Str
leaf_kind leaf.Integer = kind.Integer
leaf_kind leaf.Float = kind.Float
leaf_kind leaf.Boolean = kind.Boolean
leaf_kind leaf.OffsetDateTime = kind.OffsetDateTime
leaf_kind leaf.LocalDateTime = kind.LocalDateTime
leaf_kind leaf.LocalDate = kind.LocalDate
leaf_kind leaf.LocalTime = kind.LocalTime
leaf_kind leaf.ArrayOpen = kind.Array
leaf_kind leaf.InlineOpen = kind.Inline
leaf_kind _ = kind.Table
