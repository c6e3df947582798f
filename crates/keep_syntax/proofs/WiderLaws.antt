-- What Strict accepts Wide accepts, with the same tree.
--
-- Theorems: `reads_wider`: of documents; `reads_value_wider`: of values.
use Rattle.std.proofs.Common.{ℕ, List, [], ◌∷◌, Option, Some, None}
use Rattle.std.specs.List.{AllByRecursion}
use Rattle.keep_types.specs.declared.leaf.Profile.TheVariants.{Strict, Wide}
use Rattle.keep_token.proofs.Shared.{leaf_wider}
use Rattle.keep_syntax.proofs.SpaceLaws.{space_blank}
use Rattle.keep_syntax.specs.Tree.{Written, Gap, Further, Key, Name, Body, scalar, array, inline, Entries, none, entry}
use Rattle.keep_syntax.specs.Tree.{Value, Content, blank, keyval, header, element, Line, Ended, Document}
use Rattle.keep_syntax.specs.Grammar.{IsKeyPart, IsFurther, IsKey, IsName, Place, in_scalar, in_array, in_inline}
use Rattle.keep_syntax.specs.Grammar.{place_in, IsGap, IsNamed, IsBody, MayEndInComma, IsComma, AreEntries, IsValue}
use Rattle.keep_syntax.specs.Grammar.{IsContent, IsLine, IsEnded, IsDocument, Reads, ReadsValue}

part_wider : (w : Written) → IsKeyPart Strict w → IsKeyPart Wide w
part_wider w h = (h.0, leaf_wider w.leaf w.text h.1)

more_wider : (fs : List Further) → AllByRecursion (IsFurther Strict) fs → AllByRecursion (IsFurther Wide) fs
more_wider [] h = tt
more_wider (f ∷ fs) h =
    (record { before = h.0.before; after = h.0.after; part = part_wider f.part h.0.part }, more_wider fs h.1)

key_wider : (k : Key) → IsKey Strict k → IsKey Wide k
key_wider k h = record { first = part_wider k.first h.first; more = more_wider k.more h.more }

name_wider : (n : Name) → IsName Strict n → IsName Wide n
name_wider n h = record { key = key_wider n.key h.key; before = h.before; after = h.after }

gap_wider : (place : Place) (g : Gap) → IsGap Strict place g → IsGap Wide place g
gap_wider in_scalar g h = h
gap_wider in_array g h = h
gap_wider in_inline g h = space_blank g h

named_wider : (place : Place) (o : Option Name) → IsNamed Strict place o → IsNamed Wide place o
named_wider in_scalar None h = h
named_wider in_scalar (Some n) h = h
named_wider in_array None h = h
named_wider in_array (Some n) h = h
named_wider in_inline None h = h
named_wider in_inline (Some n) h = name_wider n h

body_wider : (b : Body) → IsBody Strict b → IsBody Wide b
body_wider (scalar w) h = (h.0, leaf_wider w.leaf w.text h.1)
body_wider (array g) h = h
body_wider (inline g) h = space_blank g h

last_wider : (place : Place) → MayEndInComma Strict place → MayEndInComma Wide place
last_wider in_scalar h = h
last_wider in_array h = h
last_wider in_inline h = absurd h

comma_wider : (place : Place) (c : Option Gap) (rest : Entries) → IsComma Strict place c rest
    → IsComma Wide place c rest
comma_wider place None none h = h
comma_wider place None (entry name body nested after comma rest) h = h
comma_wider place (Some b) none h = (gap_wider place b h.0, last_wider place h.1)
comma_wider place (Some b) (entry name body nested after comma rest) h = gap_wider place b h

entries_wider : (es : Entries) (place : Place) → AreEntries Strict place es → AreEntries Wide place es
entries_wider none place h = tt
entries_wider (entry name body nested after comma rest) place h = (
  named_wider place name h.0,
  body_wider body h.1,
  entries_wider nested (place_in body) h.2,
  gap_wider place after h.3,
  comma_wider place comma rest h.4,
  entries_wider rest place h.5,
)

pub value_wider : (v : Value) → IsValue Strict v → IsValue Wide v
value_wider v h = record { body = body_wider v.body h.body; nested = entries_wider v.nested (place_in v.body) h.nested }

content_wider : (c : Content) → IsContent Strict c → IsContent Wide c
content_wider blank h = h
content_wider (keyval name value) h = (name_wider name h.0, value_wider value h.1)
content_wider (header before key after) h = (h.0, key_wider key h.1, h.2)
content_wider (element before key after) h = (h.0, key_wider key h.1, h.2)

line_wider : (l : Line) → IsLine Strict l → IsLine Wide l
line_wider l h =
    record { before = h.before; content = content_wider l.content h.content; after = h.after; comment = h.comment }

ended_wider : (es : List Ended) → AllByRecursion (IsEnded Strict) es → AllByRecursion (IsEnded Wide) es
ended_wider [] h = tt
ended_wider (e ∷ es) h =
    (record { line = line_wider e.line h.0.line; kind = h.0.kind; newline = h.0.newline }, ended_wider es h.1)

pub document_wider : (s : Document) → IsDocument Strict s → IsDocument Wide s
document_wider s h = record { ended = ended_wider s.ended h.ended; last = line_wider s.last h.last }

pub reads_wider : (limit : ℕ) (bytes : List ℕ) (s : Document) → Reads Strict limit bytes s → Reads Wide limit bytes s
reads_wider limit bytes s h = record { valid = document_wider s h.valid; spelled = h.spelled; shallow = h.shallow }

pub reads_value_wider : (limit : ℕ) (bytes : List ℕ) (v : Value) → ReadsValue Strict limit bytes v
    → ReadsValue Wide limit bytes v
reads_value_wider limit bytes v h = record { valid = value_wider v h.valid; spelled = h.spelled; shallow = h.shallow }
