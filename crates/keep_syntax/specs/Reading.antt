-- Reading from left to right, as a function on lists: what the code equals, and what the laws in proofs/ tie to the
-- grammar. A part is read from the start of a text, and what comes after it is handed on. Places are the texts from
-- them on, so nothing is counted.
use Rattle.std.specs.Prelude.{ℕ, zero, suc, Bool, true, false, not, ◌&&◌, ◌||◌, ◌==◌, if◌then◌else◌, List, [], ◌∷◌}
use Rattle.std.specs.Prelude.{◌++◌, length, take, drop, slice_index, Option, Some, None, Result, Ok, Err}
use Rattle.keep_types.specs.declared.leaf.Profile.{Profile}
use Rattle.keep_types.specs.declared.leaf.Profile.TheVariants.{Strict, Wide}
use Rattle.keep_types.specs.declared.leaf.Leaf.{Leaf}
use Rattle.keep_types.specs.declared.leaf.Leaf.TheVariants as leaf
use Rattle.keep_token.specs.Abnf.{is_ws}
use Rattle.keep_token.specs.Scanning.{first, gap_at, key_at, scalar_at}
use Rattle.keep_syntax.specs.declared.info.Brackets.{Brackets}
use Rattle.keep_syntax.specs.declared.info.Brackets.TheVariants as brackets
use Rattle.keep_syntax.specs.Tree.{Written, Gap, Further, Key, Name, Body, scalar, array, inline, Entries, none, entry}
use Rattle.keep_syntax.specs.Tree.{Value, Content, blank, keyval, header, element, Line, Ended, Document, token}

-- nothing fits, or a bracket is one too many: the text from it on
pub data Fault : Type 0 where
  Bad : Fault
  Deep : (rest : List ℕ) → Fault

-- a part and the text after it
abbrev pub Read : Type 0 → Type 0
Read A = Result (A × List ℕ) Fault

infixl 10 ◌>>=◌
abbrev pub ◌>>=◌ : {A B : Type 0} → Result A Fault → (A → Result B Fault) → Result B Fault
(Ok x) >>= f = f x
(Err e) >>= f = Err e

-- ---- loops

-- after an iteration: continue with this, or ready with that
pub data Iteration (S A : Type 0) : Type 0 where
  continues : (state : S) → Iteration S A
  ready : (made : A) → Iteration S A

abbrev pub onward : {S A : Type 0} → (S → List ℕ → Read A) → Iteration S A → List ℕ → Read A
onward go (continues state) text = go state text
onward go (ready made) text = Ok (made, text)

-- iteration after iteration, at most so many
unfoldable pub repeat : {S A : Type 0} → ℕ → (S → List ℕ → Read (Iteration S A)) → S → List ℕ → Read A
repeat zero iteration state text = Err Bad
repeat (suc n) iteration state text = iteration state text >>= λ t. onward (repeat n iteration) t.0 t.1

-- each iteration but the last takes a byte, so these are enough
abbrev pub loop : {S A : Type 0} → (S → List ℕ → Read (Iteration S A)) → S → List ℕ → Read A
loop iteration state text = repeat (suc (length text)) iteration state text

-- ---- gaps

abbrev pub written : Leaf → ℕ → List ℕ → Written
written l n text = record { leaf = l; text = take n text }

-- [ ws ]
abbrev pub space_of : List ℕ → Option (Leaf × ℕ) → Gap × List ℕ
space_of text (Some (leaf.Ws, n)) = (token leaf.Ws (take n text), drop n text)
space_of text _ = ([], text)

unfoldable pub space_at : List ℕ → Gap × List ℕ
space_at text = space_of text (gap_at text)

abbrev pub prepended : Written → Gap × List ℕ → Gap × List ℕ
prepended w g = (w ∷ g.0, g.1)

-- White space, newlines and comments, as far as they go, in at most so many steps. Whether a comment ends in a newline
-- shows after them.
abbrev pub blank_of : (List ℕ → Gap × List ℕ) → List ℕ → Option (Leaf × ℕ) → Gap × List ℕ
blank_of go text None = ([], text)
blank_of go text (Some (l, n)) = prepended (written l n text) (go (drop n text))

unfoldable pub blank_from : ℕ → List ℕ → Gap × List ℕ
blank_from zero text = ([], text)
blank_from (suc n) text = blank_of (blank_from n) text (gap_at text)

abbrev pub blank_at : List ℕ → Gap × List ℕ
blank_at text = blank_from (suc (length text)) text

-- ---- brackets

abbrev pub open_byte : Brackets → ℕ
open_byte brackets.Array = 0x5B
open_byte brackets.Inline = 0x7B

abbrev pub close_byte : Brackets → ℕ
close_byte brackets.Array = 0x5D
close_byte brackets.Inline = 0x7D

abbrev pub body_in : Brackets → Gap → Body
body_in brackets.Array first = array first
body_in brackets.Inline first = inline first

-- whether newlines and comments may be in the gaps, and a comma after the last entry
abbrev pub is_free : Profile → Brackets → Bool
is_free profile brackets.Array = true
is_free Strict brackets.Inline = false
is_free Wide brackets.Inline = true

abbrev pub gap_if : Bool → List ℕ → Gap × List ℕ
gap_if true text = blank_at text
gap_if false text = space_at text

abbrev pub gap_in : Profile → Brackets → List ℕ → Gap × List ℕ
gap_in profile b text = gap_if (is_free profile b) text

-- ---- keys

-- a key part
abbrev pub part_of : List ℕ → Option (Leaf × ℕ) → Read Written
part_of text None = Err Bad
part_of text (Some (l, n)) = Ok (written l n text, drop n text)

abbrev pub part_at : Profile → List ℕ → Read Written
part_at profile text = part_of text (key_at profile text)

-- After a key part: gap, dot, gap and a further part, or the gap after the key.
abbrev pub further_by : Profile → List Further → Gap × List ℕ → Read (Iteration (List Further) (List Further × Gap))
further_by profile prefix b =
    if first b.1 == 0x2E
    then (part_at profile (space_at (drop 1 b.1)).1 >>= λ p. Ok
    (continues (prefix ++ (record { before = b.0; after = (space_at (drop 1 b.1)).0; part = p.0 } ∷ [])), p.1))
    else Ok (ready (prefix, b.0), b.1)

unfoldable pub further_at : Profile → List Further → List ℕ → Read (Iteration (List Further) (List Further × Gap))
further_at profile prefix text = further_by profile prefix (space_at text)

-- the further parts after those that were read, and the gap after the key
abbrev pub more_of : Profile → List Further → List ℕ → Read (List Further × Gap)
more_of profile prefix text = loop (further_at profile) prefix text

-- a key and the gap after it
unfoldable pub key_of : Profile → List ℕ → Read (Key × Gap)
key_of profile text =
    part_at profile text >>= λ p. more_of profile [] p.1 >>= λ m.
    Ok ((record { first = p.0; more = m.0.0 }, m.0.1), m.1)

-- key, gap, equals, gap
abbrev pub equals_by : Key × Gap → List ℕ → Read Name
equals_by k text =
    if first text == 0x3D
    then Ok (record { key = k.0; before = k.1; after = (space_at (drop 1 text)).0 }, (space_at (drop 1 text)).1)
    else Err Bad

unfoldable pub name_of : Profile → List ℕ → Read Name
name_of profile text = key_of profile text >>= λ k. equals_by k.0 k.1

-- ---- values

-- entries, and then further ones
abbrev pub join : Entries → Entries → Entries
join none es = es
join (entry name body nested after comma rest) es = entry name body nested after comma (join rest es)

-- an entry by itself
pub record Item : Type 0 where
  pub name : Option Name
  pub value : Value
  pub after : Gap
  pub comma : Option Gap

abbrev pub entry_of : Item → Entries → Entries
entry_of i rest = entry i.name i.value.body i.value.nested i.after i.comma rest

-- an item of an array has no name
abbrev pub named_in : Profile → Brackets → List ℕ → Read (Option Name)
named_in profile brackets.Array text = Ok (None, text)
named_in profile brackets.Inline text = name_of profile text >>= λ n. Ok (Some n.0, n.1)

-- After a comma and its gap an entry must follow, unless the bracket may.
abbrev pub comma_by : Profile → Brackets → Option Name → Value → Gap → Gap × List ℕ → Read Item
comma_by profile b name v after k =
    if not (is_free profile b) && first k.1 == close_byte b then Err Bad
    else Ok (record { name = name; value = v; after = after; comma = Some k.0 }, k.1)

-- what follows a value and its gap
abbrev pub after_by : Profile → Brackets → Option Name → Value → Gap × List ℕ → Read Item
after_by profile b name v a =
    if first a.1 == 0x2C then comma_by profile b name v a.0 (gap_in profile b (drop 1 a.1))
    else if first a.1 == close_byte b then Ok (record { name = name; value = v; after = a.0; comma = None }, a.1)
    else Err Bad

-- one entry with its comma, where `value` reads a value
unfoldable pub item_by : Profile → Brackets → (List ℕ → Read Value) → List ℕ → Read Item
item_by profile b value text =
    named_in profile b text >>= λ n. value n.1 >>= λ v. after_by profile b n.0 v.0 (gap_in profile b v.1)

-- after a comma further, else ready
abbrev pub iteration_of : Entries → Item → Option Gap → Iteration Entries Entries
iteration_of prefix i None = ready (join prefix (entry_of i none))
iteration_of prefix i (Some after) = continues (join prefix (entry_of i none))

unfoldable pub entry_by : Profile → Brackets → (List ℕ → Read Value) → Entries → List ℕ
    → Read (Iteration Entries Entries)
entry_by profile b value prefix text =
    if first text == close_byte b then Ok (ready prefix, text)
    else (item_by profile b value text >>= λ i. Ok (iteration_of prefix i.0 i.0.comma, i.1))

-- the entries up to the closing bracket, after those that were read
abbrev pub entries_by : Profile → Brackets → (List ℕ → Read Value) → Entries → List ℕ → Read Entries
entries_by profile b value prefix text = loop (entry_by profile b value) prefix text

-- an array or an inline table, whose values `value` reads
abbrev pub bracket_by : Profile → (List ℕ → Read Value) → Brackets → List ℕ → Read Value
bracket_by profile value b text =
    entries_by profile b value none (gap_in profile b (drop 1 text)).1 >>= λ es.
    Ok (record { body = body_in b (gap_in profile b (drop 1 text)).0; nested = es.0 }, drop 1 es.1)

abbrev pub scalar_of : List ℕ → Option (Leaf × ℕ) → Read Value
scalar_of text None = Err Bad
scalar_of text (Some (l, n)) = Ok (record { body = scalar (written l n text); nested = none }, drop n text)

-- a value, where `bracket` reads those in brackets
abbrev pub value_by : Profile → (Brackets → List ℕ → Read Value) → List ℕ → Read Value
value_by profile bracket text =
    if first text == 0x5B then bracket brackets.Array text
    else if first text == 0x7B then bracket brackets.Inline text
    else scalar_of text (scalar_at profile text)

-- A value, where so many more brackets may be opened: one more is a fault with the text from it on.
unfoldable pub value_of : Profile → ℕ → List ℕ → Read Value
value_of profile zero text = value_by profile (λ b t. Err (Deep t)) text
value_of profile (suc depth_left) text = value_by profile (bracket_by profile (value_of profile depth_left)) text

-- ---- lines

-- white space, a newline or a comment may begin with this byte
abbrev pub begins_gap : ℕ → Bool
begins_gap c = ((is_ws c || c == 0x0A) || c == 0x0D) || c == 0x23

-- where a line's content cannot begin: the end, a newline or a comment
abbrev pub is_line_end : ℕ → Bool
is_line_end c = ((c == 0 || c == 0x0A) || c == 0x0D) || c == 0x23

abbrev pub keyval_of : Profile → ℕ → List ℕ → Read Content
keyval_of profile depth_left text =
    name_of profile text >>= λ n. value_of profile depth_left n.1 >>= λ v. Ok (keyval n.0 v.0, v.1)

-- after a header's opening and gap
abbrev pub header_by : Profile → Gap × List ℕ → Read Content
header_by profile b =
    key_of profile b.1 >>= λ k.
    (if first k.1 == 0x5D then Ok (header b.0 k.0.0 k.0.1, drop 1 k.1) else Err Bad)

abbrev pub element_by : Profile → Gap × List ℕ → Read Content
element_by profile b =
    key_of profile b.1 >>= λ k.
    (if first k.1 == 0x5D && slice_index k.1 1 == 0x5D then Ok (element b.0 k.0.0 k.0.1, drop 2 k.1) else Err Bad)

unfoldable pub content_at : Profile → ℕ → List ℕ → Read Content
content_at profile depth_left text =
    if is_line_end (first text) then Ok (blank, text)
    else if first text == 0x5B && slice_index text 1 == 0x5B then element_by profile (space_at (drop 2 text))
    else if first text == 0x5B then header_by profile (space_at (drop 1 text))
    else keyval_of profile depth_left text

-- an empty line has one gap
abbrev pub after_of : Content → List ℕ → Gap × List ℕ
after_of blank text = ([], text)
after_of _ text = space_at text

abbrev pub comment_of : List ℕ → Option (Leaf × ℕ) → Option Written × List ℕ
comment_of text (Some (leaf.Comment, n)) = (Some (written leaf.Comment n text), drop n text)
comment_of text _ = (None, text)

unfoldable pub comment_at : List ℕ → Option Written × List ℕ
comment_at text = comment_of text (gap_at text)

abbrev pub line_by : Gap → Content → Gap × List ℕ → Read Line
line_by before content a =
    Ok (record { before = before; content = content; after = a.0; comment = (comment_at a.1).0 }, (comment_at a.1).1)

-- a line without its newline
unfoldable pub line_at : Profile → ℕ → List ℕ → Read Line
line_at profile depth_left text =
    content_at profile depth_left (space_at text).1 >>= λ c. line_by (space_at text).0 c.0 (after_of c.0 c.1)

-- lines with their newlines, and the last line
abbrev pub Lines : Type 0
Lines = List Ended × Line

-- at a newline continues after it
abbrev pub newline_of : List Ended → Line → List ℕ → Option (Leaf × ℕ) → Read (Iteration (List Ended) Lines)
newline_of prefix l text (Some (leaf.Newline, n)) =
    Ok (continues (prefix ++ (record { line = l; newline = written leaf.Newline n text } ∷ [])), drop n text)
newline_of prefix l text _ = Err Bad

-- at the end is ready
abbrev pub after_line : List Ended → Line → List ℕ → Read (Iteration (List Ended) Lines)
after_line prefix l [] = Ok (ready (prefix, l), [])
after_line prefix l (c ∷ cs) = newline_of prefix l (c ∷ cs) (gap_at (c ∷ cs))

unfoldable pub ended_at : Profile → ℕ → List Ended → List ℕ → Read (Iteration (List Ended) Lines)
ended_at profile depth_left prefix text = line_at profile depth_left text >>= λ l. after_line prefix l.0 l.1

-- the lines after those that were read
abbrev pub lines_of : Profile → ℕ → List Ended → List ℕ → Read Lines
lines_of profile depth_left prefix text = loop (ended_at profile depth_left) prefix text

-- ---- whole texts

-- EF BB BF comes first
abbrev pub has_bom : List ℕ → Bool
has_bom text = (first text == 0xEF && slice_index text 1 == 0xBB) && slice_index text 2 == 0xBF

abbrev pub after_bom : Bool → List ℕ → List ℕ
after_bom true text = drop 3 text
after_bom false text = text

-- a document and nothing else
unfoldable pub read_document : Profile → ℕ → List ℕ → Result Document Fault
read_document profile limit text =
    lines_of profile limit [] (after_bom (has_bom text) text) >>= λ l. Ok
    (record { bom = has_bom text; ended = l.0.0; last = l.0.1 })

-- one value and nothing else
unfoldable pub read_one_value : Profile → ℕ → List ℕ → Result Value Fault
read_one_value profile limit text = value_of profile limit text >>= λ v. if length v.1 == 0 then Ok v.0 else Err Bad
