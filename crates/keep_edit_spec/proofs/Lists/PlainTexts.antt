-- Texts without a carriage return: their newlines are line feeds, and changes without one leave them so.
--
-- Each newline of a valid document is a line feed or has a carriage return before it, and is a part of its text. So the
-- first newline of such a document is a line feed, which is what is written where there is none.
--
-- Theorems: `plain_with`: a text with changes; `plain_newline`: the first newline.
use Rattle.std.proofs.Common.{◌≡◌, ◌≢◌, ℕ, ◌+◌, List, [], ◌∷◌, ◌++◌, take, drop, refl, ap₂, subst, All, Option, Some}
use Rattle.std.proofs.Common.{None, inl, inr}
use Rattle.std.specs.Prelude.{◌⊎◌, ⊤, codes}
use Rattle.std.proofs.lemmas.List.Elements.{All-append, All-cons, All-drop, All-head, All-nil}
use Rattle.std.proofs.lemmas.List.Elements.{All-tail, All-take}
use Rattle.keep_types.specs.declared.leaf.Profile.{Profile}
use Rattle.keep_types.specs.declared.leaf.Leaf.{Leaf}
use Rattle.keep_types.specs.declared.leaf.Leaf.TheVariants as leaf
use Rattle.keep_syntax.specs.Tree.{Document, Written, leaves, text, text_of}
use Rattle.keep_edit_spec.specs.Laws.{IsEditable}
use Rattle.keep_edit_spec.specs.Lines.{first_newline, newline_of}
use Rattle.keep_edit_spec.specs.TextChanges.{TextChange, text_with}
use Rattle.keep_edit_spec.proofs.Common.NewLines.{IsNewline, newline_is}
use Rattle.keep_edit_spec.specs.FirstNewline.{IsPlain}

abbrev is_plain_byte : ℕ → Type 0
is_plain_byte b = b ≢ 0x0D

plain_from : (from : ℕ) (bytes : List ℕ) (cs : List TextChange) → IsPlain bytes → All (λ c. IsPlain c.new) cs
    → IsPlain (text_with from bytes cs)
plain_from from bytes [] h new = All-drop is_plain_byte from bytes h
plain_from from bytes (c ∷ cs) h new =
    All-append is_plain_byte (drop from (take c.at bytes)) (c.new ++ text_with (c.at + c.size) bytes cs)
    (All-drop is_plain_byte from (take c.at bytes) (All-take is_plain_byte c.at bytes h))
    (All-append is_plain_byte c.new (text_with (c.at + c.size) bytes cs)
    (All-head (λ (d : TextChange). IsPlain d.new) c cs new)
    (plain_from (c.at + c.size) bytes cs h (All-tail (λ (d : TextChange). IsPlain d.new) c cs new)))

pub plain_with : (bytes : List ℕ) (cs : List TextChange) → IsPlain bytes → All (λ c. IsPlain c.new) cs
    → IsPlain (text_with 0 bytes cs)
plain_with bytes cs = plain_from 0 bytes cs

-- ---- parts of a plain text

first_part : (a b : List ℕ) → IsPlain (a ++ b) → IsPlain a
first_part [] b h = All-nil is_plain_byte
first_part (x ∷ a) b h =
    All-cons is_plain_byte x a (All-head is_plain_byte x (a ++ b) h)
    (first_part a b (All-tail is_plain_byte x (a ++ b) h))

last_part : (a b : List ℕ) → IsPlain (a ++ b) → IsPlain b
last_part [] b h = h
last_part (x ∷ a) b h = last_part a b (All-tail is_plain_byte x (a ++ b) h)

-- ---- the first newline

abbrev pub line_feed : Written
line_feed = record { leaf = leaf.Newline; text = codes "\n" }

abbrev PlainNewline : Option Written → Type 0
PlainNewline None = ⊤
PlainNewline (Some w) = IsPlain w.text

found_by : (w : Written) (ws : List Written) → IsPlain w.text → PlainNewline (first_newline ws) → (l : Leaf)
    → PlainNewline (elim l [ leaf.Newline ↦ Some w | _ ↦ first_newline ws ])
found_by w ws h rest leaf.Newline = h
found_by w ws h rest _ = rest

found : (ws : List Written) → IsPlain (text_of ws) → PlainNewline (first_newline ws)
found [] h = tt
found (w ∷ ws) h =
    found_by w ws (first_part w.text (text_of ws) h) (found ws (last_part w.text (text_of ws) h)) w.leaf

pub plain_newline : (profile : Profile) (limit : ℕ) (s : Document) → IsEditable profile limit s → IsPlain (text s)
    → newline_of s ≡ line_feed
plain_newline profile limit s fine plain =
    by (first_newline (leaves s)) (found (leaves s) plain) (newline_is profile s fine.valid)
  where
    is_feed : (w : Written) → IsPlain w.text → w.leaf ≡ leaf.Newline
        → (w.text ≡ 0x0A ∷ []) ⊎ (w.text ≡ 0x0D ∷ 0x0A ∷ []) → w ≡ line_feed
    is_feed w h kind (inl e) = ap₂ (λ (l : Leaf) (t : List ℕ). record { leaf = l; text = t }) kind e
    is_feed w h kind (inr e) = absurd (All-head is_plain_byte 0x0D (0x0A ∷ []) (subst IsPlain e h) refl)

    by : (o : Option Written) → PlainNewline o → IsNewline (elim o [ Some w ↦ w | None ↦ line_feed ])
        → elim o [ Some w ↦ w | None ↦ line_feed ] ≡ line_feed
    by None h is = refl
    by (Some w) h is = is_feed w h is.kind is.newline
