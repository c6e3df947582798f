-- Numbers and places after a count. Lifting takes what is numbered from 0 to after a count: each place and number grows
-- by what the count has. Moving takes it from after one count to after another.
use Rattle.std.specs.Prelude.{ℕ, ◌+◌, ◌-◌, Option, Some, None}
use Rattle.keep_types.specs.declared.syntax.Span.{Span}
use Rattle.keep_types.specs.declared.syntax.Start.{Start}
use Rattle.keep_types.specs.declared.syntax.KeyPart.{KeyPart}
use Rattle.keep_types.specs.declared.syntax.Owner.{Owner}
use Rattle.keep_types.specs.declared.syntax.Owner.TheVariants as owner
use Rattle.keep_types.specs.declared.syntax.Statement.{Statement}
use Rattle.keep_types.specs.declared.syntax.ValueInfo.{ValueInfo}
use Rattle.keep_syntax_store.specs.Counts.{span, Count}

abbrev pub origin : Count
origin = record { at = 0; statements = 0; parts = 0; values = 0 }

-- the sum of two counts
abbrev pub plus : Count → Count → Count
plus c d = record {
  at = c.at + d.at;
  statements = c.statements + d.statements;
  parts = c.parts + d.parts;
  values = c.values + d.values;
}

abbrev pub lift_there : ℕ → Option ℕ → Option ℕ
lift_there n None = None
lift_there n (Some m) = Some (n + m)

abbrev pub lift_span : ℕ → Span → Span
lift_span at s = span (at + s.start) (at + s.end)

abbrev pub lift_owner : Count → Owner → Owner
lift_owner c (owner.Line n) = owner.Line (c.statements + n)
lift_owner c (owner.Inline n) = owner.Inline (c.values + n)
lift_owner c (owner.Item n) = owner.Item (c.values + n)

abbrev pub lift_start : Count → Start → Start
lift_start c p = record {
  at = c.at + p.at;
  values = c.values + p.values;
  parts = c.parts + p.parts;
  owner = lift_owner c p.owner;
  depth = p.depth;
  comma = lift_there c.at p.comma;
}

abbrev pub lift_key : Count → KeyPart → KeyPart
lift_key c k = record { leaf = k.leaf; span = lift_span c.at k.span }

abbrev pub lift_statement : Count → Statement → Statement
lift_statement c s = record {
  kind = s.kind;
  span = lift_span c.at s.span;
  line = lift_span c.at s.line;
  first_key = c.parts + s.first_key;
  keys = s.keys;
  value = lift_there c.values s.value;
}

abbrev pub lift_value : Count → ValueInfo → ValueInfo
lift_value c v = record {
  leaf = v.leaf;
  span = lift_span c.at v.span;
  whole = lift_span c.at v.whole;
  owner = lift_owner c v.owner;
  depth = v.depth;
  first_key = c.parts + v.first_key;
  keys = v.keys;
  comma_before = lift_there c.at v.comma_before;
  comma_after = lift_there c.at v.comma_after;
}

-- ---- from after one count to after another

abbrev pub moved : ℕ → ℕ → ℕ → ℕ
moved old new n = n - old + new

abbrev pub moved_there : ℕ → ℕ → Option ℕ → Option ℕ
moved_there old new None = None
moved_there old new (Some m) = Some (moved old new m)

abbrev pub moved_span : ℕ → ℕ → Span → Span
moved_span old new s = span (moved old new s.start) (moved old new s.end)

abbrev pub moved_owner : Count → Count → Owner → Owner
moved_owner a b (owner.Line n) = owner.Line (moved a.statements b.statements n)
moved_owner a b (owner.Inline n) = owner.Inline (moved a.values b.values n)
moved_owner a b (owner.Item n) = owner.Item (moved a.values b.values n)

abbrev pub moved_key : Count → Count → KeyPart → KeyPart
moved_key a b k = record { leaf = k.leaf; span = moved_span a.at b.at k.span }

abbrev pub moved_statement : Count → Count → Statement → Statement
moved_statement a b s = record {
  kind = s.kind;
  span = moved_span a.at b.at s.span;
  line = moved_span a.at b.at s.line;
  first_key = moved a.parts b.parts s.first_key;
  keys = s.keys;
  value = moved_there a.values b.values s.value;
}

abbrev pub moved_value : Count → Count → ValueInfo → ValueInfo
moved_value a b v = record {
  leaf = v.leaf;
  span = moved_span a.at b.at v.span;
  whole = moved_span a.at b.at v.whole;
  owner = moved_owner a b v.owner;
  depth = v.depth;
  first_key = moved a.parts b.parts v.first_key;
  keys = v.keys;
  comma_before = moved_there a.at b.at v.comma_before;
  comma_after = moved_there a.at b.at v.comma_after;
}
