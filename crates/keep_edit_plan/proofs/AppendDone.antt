-- Appending a header: when it is refused, and where it is written.
--
-- A header is refused for the conflict that `conflict_from` finds as it goes along the keys: `table_met` and
-- `element_met` say so of the two kinds of header, in a document that obeys the rules (`met`). The definitions put a
-- header at the end of the text (`append_place`). The text of its tokens is that of the encoded keys with dots between
-- them (`keys_written`), in brackets (`header_written`). So what is written at the end is what `header_at_end` makes of
-- the text, the document's newline and the header (`placed`). The code has bytes that equal that text and that newline,
-- and so it writes the same (`written_as`, `given_as`). An append that is not refused is lawful, since its keys are
-- UTF-8 (`keys_utf8`).
--
-- Theorems: `refused_as`: when an append is refused; `done_there`: where it is written if it is not; `law_of`: it is
-- lawful then.
use Rattle.std.proofs.Common.{◌≡◌, ℕ, true, false, ◌==◌, List, [], ◌∷◌, ◌++◌, length, map, refl, sym, ap, ◌∙◌, arith}
use Rattle.std.proofs.Common.{None, Ok}
use Rattle.std.specs.Prelude.{String, string_bytes, codes, IsUtf8}
use Rattle.std.specs.Global.{Global}
use Rattle.std.specs.List.{flat_map, AllByRecursion}
use Rattle.std.specs.Option.{option_map}
use Rattle.std.proofs.lemmas.List.{append-nil}
use Rattle.std.proofs.lemmas.List.Concat.{flat_map-append}
use Rattle.std.proofs.lemmas.Str.{IsUtf8-string_bytes, IsCharBoundary-end}
use Rattle.keep_types.specs.declared.leaf.Leaf.TheVariants as leaf
use Rattle.keep_types.specs.declared.leaf.Profile.{Profile}
use Rattle.keep_token.specs.Encoded.{encoded_key}
use Rattle.keep_types.specs.declared.syntax.Span.{Span}
use Rattle.keep_syntax.specs.Numbered.{span}
use Rattle.keep_syntax.specs.Tree as tree
use Rattle.keep_syntax.specs.Tree.{Written, Document, Content, token, key_leaves, further_leaves, text_of, text}
use Rattle.keep_meaning.specs.Meaning.{mentions_in}
use Rattle.keep_edit_spec.specs.declared.fault.EditFault.TheVariants as fault
use Rattle.keep_edit_spec.specs.Edits.{place, key_with, further_part}
use Rattle.keep_edit_spec.specs.Laws.{IsLawfulEdit}
use Rattle.keep_edit_spec.specs.Lines.{content_text, newline_of}
use Rattle.keep_edit_spec.specs.Refusals.{refusal}
use Rattle.keep_edit_spec.specs.TextEnds.{header_at_end}
use Rattle.keep_edit_spec.proofs.Shared.{append_place, append_table_lawful, append_element_lawful, lets_pass, table_met}
use Rattle.keep_edit_spec.proofs.Shared.{element_met}
use Rattle.keep_edit_plan.specs.Headers.{role_of, edit_of, key_texts, conflict_from, keys_text, header_text}
use Rattle.keep_edit_plan.specs.declared.header.Header.{Header}
use Rattle.keep_edit_plan.specs.declared.header.Header.TheVariants.{Table, Element}
use Rattle.keep_edit_plan.specs.Answers.{IsMadeAt}
use Rattle.keep_edit_plan.specs.Places.{place_at, IsDoneAt}
use Rattle.keep_edit_plan.specs.Reading.{limit, ProfiledText, IsTextOfTree}
use Rattle.keep_edit_plan.proofs.AppendLaws.{further_key}
use Rattle.keep_edit_plan.proofs.EditedLaws.{editable}

-- ---- the refusal

met : (profile : Profile) (s : Document) (header : Header) (d : ProfiledText) (k : List ℕ) (ks : List (List ℕ))
    → IsTextOfTree d s
    → refusal profile limit s (edit_of header (k ∷ ks))
    ≡ option_map fault.Conflict (conflict_from s [] (k ∷ ks) (role_of header))
met profile s Table d k ks read =
    ap (option_map fault.Conflict) (table_met (mentions_in s) (lets_pass (mentions_in s) read.obeys) k ks)
met profile s Element d k ks read =
    ap (option_map fault.Conflict) (element_met (mentions_in s) (lets_pass (mentions_in s) read.obeys) k ks)

-- with keys
pub refused_as : (profile : Profile) (s : Document) (header : Header) (d : ProfiledText) (keys : List (String Global))
    → (keys ≡ [] → ⊥) → IsTextOfTree d s
    → refusal profile limit s (edit_of header (key_texts keys))
    ≡ option_map fault.Conflict (conflict_from s [] (key_texts keys) (role_of header))
refused_as profile s header d [] some read = absurd (some refl)
refused_as profile s header d (k ∷ ks) some read = met profile s header d (string_bytes k) (key_texts ks) read

-- ---- what is written

further_written : (ks : List (List ℕ))
    → text_of (flat_map further_leaves (map further_part ks)) ≡ flat_map further_key ks
further_written [] = refl
further_written (k ∷ ks) =
    flat_map-append (λ (w : Written). w.text) (further_leaves (further_part k))
    (flat_map further_leaves (map further_part ks))
    ∙ ap (λ (t : List ℕ). (codes "." ++ (encoded_key k ++ [])) ++ t) (further_written ks)
    ∙ ap (λ (t : List ℕ). (codes "." ++ t) ++ flat_map further_key ks) (append-nil (encoded_key k))

keys_written : (k : List ℕ) (ks : List (List ℕ)) → text_of (key_leaves (key_with (k ∷ ks))) ≡ keys_text (k ∷ ks)
keys_written k ks = ap (λ (t : List ℕ). encoded_key k ++ t) (further_written ks)

abbrev content_of : Header → List (List ℕ) → Content
content_of Table keys = tree.header [] (key_with keys) []
content_of Element keys = tree.element [] (key_with keys) []

around_keys : (opens closes keys : List Written)
    → text_of (opens ++ (keys ++ closes)) ≡ text_of opens ++ (text_of keys ++ text_of closes)
around_keys opens closes keys =
    flat_map-append (λ (w : Written). w.text) opens (keys ++ closes)
    ∙ ap (λ (t : List ℕ). text_of opens ++ t) (flat_map-append (λ (w : Written). w.text) keys closes)

header_written : (header : Header) (k : List ℕ) (ks : List (List ℕ))
    → content_text (content_of header (k ∷ ks)) ≡ header_text header (k ∷ ks)
header_written Table k ks =
    around_keys (token leaf.HeadOpen (0x5B ∷ [])) (token leaf.HeadClose (0x5D ∷ [])) (key_leaves (key_with (k ∷ ks)))
    ∙ ap (λ (t : List ℕ). codes "[" ++ (t ++ codes "]")) (keys_written k ks)
header_written Element k ks =
    around_keys (token leaf.ElemOpen (0x5B ∷ 0x5B ∷ [])) (token leaf.ElemClose (0x5D ∷ 0x5D ∷ []))
    (key_leaves (key_with (k ∷ ks)))
    ∙ ap (λ (t : List ℕ). codes "[[" ++ (t ++ codes "]]")) (keys_written k ks)

-- ---- where it is written

abbrev pub end_span : ProfiledText → Span
end_span d = record { start = length d.text; end = length d.text }

abbrev pub given_text : ProfiledText → Document → Header → List (String Global) → List ℕ
given_text d s header keys = header_at_end d.text (newline_of s).text (header_text header (key_texts keys))

placed : (d : ProfiledText) (s : Document) (header : Header) (k : List ℕ) (ks : List (List ℕ)) → IsTextOfTree d s
    → place s (edit_of header (k ∷ ks))
    ≡ place_at (end_span d) (header_at_end d.text (newline_of s).text (header_text header (k ∷ ks)))
placed d s header k ks read =
    by header
    ∙ ap (λ (t : List ℕ).
    place_at (record { start = length t; end = length t })
    (header_at_end t (newline_of s).text (header_text header (k ∷ ks)))) (sym read.reads.spelled)
  where
    by : (header : Header)
        → place s (edit_of header (k ∷ ks))
        ≡ place_at (record { start = length (text s); end = length (text s) })
        (header_at_end (text s) (newline_of s).text (header_text header (k ∷ ks)))
    by Table =
        append_place d.profile s read.reads.valid (content_of Table (k ∷ ks))
        ∙ ap (λ (t : List ℕ).
        place_at (record { start = length (text s); end = length (text s) })
        (header_at_end (text s) (newline_of s).text t)) (header_written Table k ks)
    by Element =
        append_place d.profile s read.reads.valid (content_of Element (k ∷ ks))
        ∙ ap (λ (t : List ℕ).
        place_at (record { start = length (text s); end = length (text s) })
        (header_at_end (text s) (newline_of s).text t)) (header_written Element k ks)

pub done_there : (d : ProfiledText) (s : Document) (header : Header) (keys : List (String Global)) → (keys ≡ [] → ⊥)
    → IsTextOfTree d s → conflict_from s [] (key_texts keys) (role_of header) ≡ None
    → IsDoneAt s (edit_of header (key_texts keys)) d (given_text d s header keys) (Ok (end_span d))
done_there d s header [] some read free = absurd (some refl)
done_there d s header (k ∷ ks) some read free = (
  refused_as d.profile s header d (k ∷ ks) some read ∙ ap (option_map fault.Conflict) free,
  placed d s header (string_bytes k) (key_texts ks) read,
  record {
    ordered = omega arith;
    within = omega arith;
    starts = IsCharBoundary-end d.text;
    ends = IsCharBoundary-end d.text;
  },
)

pub keys_utf8 : (keys : List (String Global)) → AllByRecursion IsUtf8 (key_texts keys)
keys_utf8 [] = tt
keys_utf8 (k ∷ ks) = (IsUtf8-string_bytes k, keys_utf8 ks)

-- the law of an append that is not refused
pub law_of : (d : ProfiledText) (s : Document) (header : Header) (keys : List (String Global)) → IsTextOfTree d s
    → refusal d.profile limit s (edit_of header (key_texts keys)) ≡ None
    → IsLawfulEdit d.profile limit s (edit_of header (key_texts keys))
law_of d s Table keys read allowed =
    append_table_lawful d.profile limit s (key_texts keys) (editable d s read) (keys_utf8 keys) allowed
law_of d s Element keys read allowed =
    append_element_lawful d.profile limit s (key_texts keys) (editable d s read) (keys_utf8 keys) allowed

-- ---- as the code has it

pub some_keys : (keys : List (String Global)) → (length keys == 0) ≡ false → keys ≡ [] → ⊥
some_keys keys e none =
    let k : false ≡ true = sym e ∙ ap (λ (l : List (String Global)). length l == 0) none in absurd cc

-- what was made is written at the end
pub written_as : (d : ProfiledText) (at : ℕ) (t given : List ℕ) (new : String Global) → at ≡ length t → t ≡ d.text
    → string_bytes new ≡ given
    → IsMadeAt (place_at (end_span d) given) (record { place = record { start = at; end = at }; new = new })
written_as d at t given new e whole is =
    let there : at ≡ length d.text = e ∙ ap length whole in
    (ap (λ (n : ℕ). span n n) there, is)

pub given_as : (d : ProfiledText) (s : Document) (header : Header) (keys : List (String Global)) (t newline : List ℕ)
    → t ≡ d.text → newline ≡ (newline_of s).text
    → header_at_end t newline (header_text header (key_texts keys)) ≡ given_text d s header keys
given_as d s header keys t newline e f =
    ap (λ (x : List ℕ). header_at_end x newline (header_text header (key_texts keys))) e
    ∙ ap (λ (x : List ℕ). header_at_end d.text x (header_text header (key_texts keys))) f
