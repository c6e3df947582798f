-- Lines put into a valid document leave it valid: its first newline is a newline, and a new line with valid content is
-- valid.
--
-- The newline that is written is the document's first one, so it has to be shown that each newline among the tokens of
-- a valid document is one of the grammar (`IsSound`). That goes through every part of a document, down to the entries
-- of values (`of_entries`) and up to `of_leaves`; `found` takes the first. Then lines are put in by induction over the
-- lines before them (`valid_lines_put`). Where they come after a last line that has no newline, that line gets one.
--
-- Theorems: `valid_at_line`: lines put into a valid document; `key_means`: a key that was written means its texts.
use Rattle.std.proofs.Common.{◌≡◌, ℕ, zero, suc, Bool, true, false, List, [], ◌∷◌, ◌++◌, map, refl, sym, subst, ◌∙◌}
use Rattle.std.proofs.Common.{arith, Option, Some, None, inl}
use Rattle.std.specs.Prelude.{⊤, IsTrue}
use Rattle.std.specs.List.{AllByRecursion, flat_map}
use Rattle.keep_types.specs.declared.leaf.Profile.{Profile}
use Rattle.keep_types.specs.declared.leaf.Profile.TheVariants.{Strict, Wide}
use Rattle.keep_types.specs.declared.leaf.Leaf.{Leaf}
use Rattle.keep_types.specs.declared.leaf.Leaf.TheVariants as leaf
use Rattle.keep_token.specs.Leaves.{IsLeaf, is_key_leaf, is_scalar_leaf}
use Rattle.keep_syntax.specs.Tree.{Written, Gap, Further, Key, Name, named_leaves, name_leaves, key_leaves}
use Rattle.keep_syntax.specs.Tree.{further_leaves, opening, closing, comma_leaves, Body, scalar, array, inline, Entries}
use Rattle.keep_syntax.specs.Tree.{none, entry, entries_leaves, Content, blank, keyval, header, element, content_leaves}
use Rattle.keep_syntax.specs.Tree.{comment_leaves, Line, line_leaves, Ended, ended_leaves, bom_leaves, Document, leaves}
use Rattle.keep_syntax.specs.Grammar.{IsSpace, IsBlank, IsGap, IsNamed, IsComma, IsComment, IsKeyPart, IsFurther, IsKey}
use Rattle.keep_syntax.specs.Grammar.{IsName, IsBody, AreEntries, IsContent, IsAfter, IsLine, IsEnded, IsDocument}
use Rattle.keep_syntax.specs.Grammar.{Place, in_scalar, in_array, in_inline, place_in}
use Rattle.keep_edit_spec.specs.Edits.{key_part}
use Rattle.keep_meaning.specs.Meaning.{key_value, further_value, keys_of}
use Rattle.keep_edit_spec.specs.Values.{space}
use Rattle.keep_syntax.specs.WholeLines.{empty_line}
use Rattle.keep_edit_spec.specs.Lines.{put_lines, new_line, plain_line, newline_of, first_newline}
use Rattle.keep_edit_spec.specs.Edits.{at_line, key_with, name_with, further_part}
use Rattle.keep_edit_spec.proofs.Common.Runs.{AllOf, all_join}
use Rattle.keep_edit_spec.proofs.Common.SetLaw.{EachTo}
use Rattle.keep_edit_spec.proofs.Common.SetValid.{IsPage}

-- ---- each newline among the leaves is one

abbrev pub IsSound : Written → Type 0
IsSound w = w.leaf ≡ leaf.Newline → IsLeaf Strict leaf.Newline w.text

other : (w : Written) (l : Leaf) → w.leaf ≡ l → (l ≡ leaf.Newline → ⊥) → IsSound w
other w l e never h = absurd (never (sym e ∙ h))

of_space : (g : Gap) → IsSpace g → AllOf IsSound g
of_space [] h = tt
of_space (w ∷ []) h = (other w leaf.Ws h.0 (λ e. absurd cc), tt)
of_space (w ∷ v ∷ g) h = absurd h

of_blank : (g : Gap) → IsBlank g → AllOf IsSound g
of_blank [] h = tt
of_blank (w ∷ g) (kind, written, more, rest) =
    ((λ e. subst (λ (l : Leaf). IsLeaf Strict l w.text) e written), of_blank g rest)

of_gap : (profile : Profile) (place : Place) (g : Gap) → IsGap profile place g → AllOf IsSound g
of_gap profile in_scalar g h = absurd h
of_gap profile in_array g h = of_blank g h
of_gap Strict in_inline g h = of_space g h
of_gap Wide in_inline g h = of_blank g h

of_kind : (test : Leaf → Bool) (w : Written) → test leaf.Newline ≡ false → IsTrue (test w.leaf) → IsSound w
of_kind test w never h e = let k : test leaf.Newline ≡ true = subst (λ (l : Leaf). test l ≡ true) e h in absurd cc

of_further : (profile : Profile) (fs : List Further) → AllByRecursion (IsFurther profile) fs
    → AllOf IsSound (flat_map further_leaves fs)
of_further profile [] h = tt
of_further profile (f ∷ fs) h =
    all_join IsSound (further_leaves f) (flat_map further_leaves fs)
    (all_join IsSound f.before _ (of_space f.before h.0.before) (
      (λ e. absurd cc),
      all_join IsSound f.after _ (of_space f.after h.0.after) (of_kind is_key_leaf f.part refl h.0.part.0, tt),
    ))
    (of_further profile fs h.1)

of_key : (profile : Profile) (k : Key) → IsKey profile k → AllOf IsSound (key_leaves k)
of_key profile k h = (of_kind is_key_leaf k.first refl h.first.0, of_further profile k.more h.more)

of_name : (profile : Profile) (n : Name) → IsName profile n → AllOf IsSound (name_leaves n)
of_name profile n h =
    all_join IsSound (key_leaves n.key) _ (of_key profile n.key h.key)
    (all_join IsSound n.before _ (of_space n.before h.before) ((λ e. absurd cc), of_space n.after h.after))

of_named : (profile : Profile) (place : Place) (n : Option Name) → IsNamed profile place n
    → AllOf IsSound (named_leaves n)
of_named profile place None h = tt
of_named profile in_inline (Some n) h = of_name profile n h
of_named profile in_array (Some n) h = absurd h
of_named profile in_scalar (Some n) h = absurd h

of_opening : (profile : Profile) (b : Body) → IsBody profile b → AllOf IsSound (opening b)
of_opening profile (scalar w) h = (of_kind is_scalar_leaf w refl h.0, tt)
of_opening profile (array g) h = ((λ e. absurd cc), of_gap profile in_array g h)
of_opening profile (inline g) h = ((λ e. absurd cc), of_gap profile in_inline g h)

of_closing : (b : Body) → AllOf IsSound (closing b)
of_closing (scalar w) = tt
of_closing (array g) = ((λ e. absurd cc), tt)
of_closing (inline g) = ((λ e. absurd cc), tt)

of_comma : (profile : Profile) (place : Place) (c : Option Gap) (rest : Entries) → IsComma profile place c rest
    → AllOf IsSound (comma_leaves c)
of_comma profile place None rest h = tt
of_comma profile place (Some g) none h = ((λ e. absurd cc), of_gap profile place g h.0)
of_comma profile place (Some g) (entry a b c d e f) h = ((λ e. absurd cc), of_gap profile place g h)

of_entries : (profile : Profile) (place : Place) (es : Entries) → AreEntries profile place es
    → AllOf IsSound (entries_leaves es)
of_entries profile place none h = tt
of_entries profile place (entry name body nested after comma rest) (hn, hb, hi, ha, hc, hr) =
    all_join IsSound (named_leaves name) _ (of_named profile place name hn)
    (all_join IsSound (opening body) _ (of_opening profile body hb)
    (all_join IsSound (entries_leaves nested) _ (of_entries profile (place_in body) nested hi)
    (all_join IsSound (closing body) _ (of_closing body)
    (all_join IsSound after _ (of_gap profile place after ha)
    (all_join IsSound (comma_leaves comma) _ (of_comma profile place comma rest hc)
    (of_entries profile place rest hr))))))

of_content : (profile : Profile) (c : Content) → IsContent profile c → AllOf IsSound (content_leaves c)
of_content profile blank h = tt
of_content profile (keyval n v) h =
    all_join IsSound (name_leaves n) _ (of_name profile n h.0)
    (all_join IsSound (opening v.body) _ (of_opening profile v.body h.1.body)
    (all_join IsSound (entries_leaves v.nested) _ (of_entries profile (place_in v.body) v.nested h.1.nested)
    (of_closing v.body)))
of_content profile (header b k a) (hb, hk, ha) = (
  (λ e. absurd cc),
  all_join IsSound b _ (of_space b hb)
      (all_join IsSound (key_leaves k) _ (of_key profile k hk)
      (all_join IsSound a _ (of_space a ha) ((λ e. absurd cc), tt))),
)
of_content profile (element b k a) (hb, hk, ha) = (
  (λ e. absurd cc),
  all_join IsSound b _ (of_space b hb)
      (all_join IsSound (key_leaves k) _ (of_key profile k hk)
      (all_join IsSound a _ (of_space a ha) ((λ e. absurd cc), tt))),
)

of_after : (c : Content) (g : Gap) → IsAfter c g → AllOf IsSound g
of_after blank g h = subst (λ (x : Gap). AllOf IsSound x) (sym h) tt
of_after (keyval n v) g h = of_space g h
of_after (header b k a) g h = of_space g h
of_after (element b k a) g h = of_space g h

of_comment : (c : Option Written) → IsComment c → AllOf IsSound (comment_leaves c)
of_comment None h = tt
of_comment (Some w) h = (other w leaf.Comment h.0 (λ e. absurd cc), tt)

of_line : (profile : Profile) (l : Line) → IsLine profile l → AllOf IsSound (line_leaves l)
of_line profile l h =
    all_join IsSound l.before _ (of_space l.before h.before)
    (all_join IsSound (content_leaves l.content) _ (of_content profile l.content h.content)
    (all_join IsSound l.after _ (of_after l.content l.after h.after) (of_comment l.comment h.comment)))

of_ended : (profile : Profile) (es : List Ended) → AllByRecursion (IsEnded profile) es
    → AllOf IsSound (flat_map ended_leaves es)
of_ended profile [] h = tt
of_ended profile (e ∷ es) h =
    all_join IsSound (ended_leaves e) _
    (all_join IsSound (line_leaves e.line) _ (of_line profile e.line h.0.line) ((λ k. h.0.newline), tt))
    (of_ended profile es h.1)

of_bom : (b : Bool) → AllOf IsSound (bom_leaves b)
of_bom true = ((λ e. absurd cc), tt)
of_bom false = tt

of_leaves : (profile : Profile) (s : Document) → IsDocument profile s → AllOf IsSound (leaves s)
of_leaves profile s h =
    all_join IsSound (bom_leaves s.bom) _ (of_bom s.bom)
    (all_join IsSound (flat_map ended_leaves s.ended) _ (of_ended profile s.ended h.ended)
    (all_join IsSound (line_leaves s.last) _ (of_line profile s.last h.last) ((λ e. absurd cc), tt)))

pub record IsNewline (w : Written) : Type 0 where
  pub kind : w.leaf ≡ leaf.Newline
  pub newline : IsLeaf Strict leaf.Newline w.text

abbrev FoundNewline : Option Written → Type 0
FoundNewline None = ⊤
FoundNewline (Some w) = IsNewline w

found_by : (w : Written) (ws : List Written) → IsSound w → FoundNewline (first_newline ws) → (l : Leaf) → w.leaf ≡ l
    → FoundNewline (elim l [ leaf.Newline ↦ Some w | _ ↦ first_newline ws ])
found_by w ws h rest leaf.Newline e = record { kind = e; newline = h e }
found_by w ws h rest _ e = rest

found : (ws : List Written) → AllOf IsSound ws → FoundNewline (first_newline ws)
found [] h = tt
found (w ∷ ws) h = found_by w ws h.0 (found ws h.1) w.leaf refl

pub newline_is : (profile : Profile) (s : Document) → IsDocument profile s → IsNewline (newline_of s)
newline_is profile s h = by (first_newline (leaves s)) (found (leaves s) (of_leaves profile s h))
  where
    by : (o : Option Written) → FoundNewline o
        → IsNewline (elim o [ Some w ↦ w | None ↦ newline_of (record { bom = false; ended = []; last = empty_line }) ])
    by (Some w) h = h
    by None h = record { kind = refl; newline = inl refl }

-- ---- lines put in

valid_plain : (profile : Profile) (c : Content) → IsContent profile c → IsLine profile (plain_line c)
valid_plain profile blank h = record { before = tt; content = h; after = refl; comment = tt }
valid_plain profile (keyval n v) h = record { before = tt; content = h; after = tt; comment = tt }
valid_plain profile (header b k a) h = record { before = tt; content = h; after = tt; comment = tt }
valid_plain profile (element b k a) h = record { before = tt; content = h; after = tt; comment = tt }

valid_new : (profile : Profile) (newline : Written) (cs : List Content) → IsNewline newline
    → AllOf (IsContent profile) cs → AllByRecursion (IsEnded profile) (map (new_line newline) cs)
valid_new profile newline [] n h = tt
valid_new profile newline (c ∷ cs) n h = (
  record { line = valid_plain profile c h.0; kind = n.kind; newline = n.newline },
  valid_new profile newline cs n h.1,
)

ended_join : (profile : Profile) (a b : List Ended) → AllByRecursion (IsEnded profile) a
    → AllByRecursion (IsEnded profile) b → AllByRecursion (IsEnded profile) (a ++ b)
ended_join profile [] b h g = g
ended_join profile (e ∷ a) b h g = (h.0, ended_join profile a b h.1 g)

valid_lines_put : (profile : Profile) (n : ℕ) (new : List Ended) (newline : Written) (es : List Ended) (last : Line)
    → AllByRecursion (IsEnded profile) new → IsNewline newline → AllByRecursion (IsEnded profile) es
    → IsLine profile last → IsPage profile (put_lines n new newline es last).to
valid_lines_put profile zero new newline [] last hn hw he hl = record { ended = hn; last = hl }
valid_lines_put profile (suc m) new newline [] last hn hw he hl =
    record {
      ended = (record { line = hl; kind = hw.kind; newline = hw.newline }, hn);
      last = valid_plain profile blank tt;
    }
valid_lines_put profile zero new newline (e ∷ es) last hn hw he hl =
    record { ended = ended_join profile new (e ∷ es) hn he; last = hl }
valid_lines_put profile (suc m) new newline (e ∷ es) last hn hw he hl =
    let h = valid_lines_put profile m new newline es last hn hw he.1 hl in
    record { ended = (he.0, h.ended); last = h.last }

pub valid_at_line : (profile : Profile) (s : Document) (n : ℕ) (cs : List Content) → IsDocument profile s
    → AllOf (IsContent profile) cs → EachTo (IsDocument profile) (at_line s n cs)
valid_at_line profile s n cs h hc =
    let w : IsNewline (newline_of s) = newline_is profile s h in
    let p = valid_lines_put profile n (map (new_line (newline_of s)) cs) (newline_of s) s.ended s.last
    (valid_new profile (newline_of s) cs w hc) w h.ended h.last in
    record { ended = p.ended; last = p.last }

-- ---- keys as they are written

-- the key's text can be written as a key part that means it
pub record IsKeyText (profile : Profile) (k : List ℕ) : Type 0 where
  pub valid : IsKeyPart profile (key_part k)
  pub means : key_value (key_part k) ≡ k

valid_further : (profile : Profile) (ks : List (List ℕ)) → AllOf (IsKeyText profile) ks
    → AllByRecursion (IsFurther profile) (map further_part ks)
valid_further profile [] h = tt
valid_further profile (k ∷ ks) h = (record { before = tt; after = tt; part = h.0.valid }, valid_further profile ks h.1)

pub valid_key : (profile : Profile) (k : List ℕ) (ks : List (List ℕ)) → AllOf (IsKeyText profile) (k ∷ ks)
    → IsKey profile (key_with (k ∷ ks))
valid_key profile k ks h = record { first = h.0.valid; more = valid_further profile ks h.1 }

one_space : IsSpace space
one_space = (refl, (omega arith, refl))

pub valid_name : (profile : Profile) (k : List ℕ) (ks : List (List ℕ)) → AllOf (IsKeyText profile) (k ∷ ks)
    → IsName profile (name_with (k ∷ ks))
valid_name profile k ks h = record { key = valid_key profile k ks h; before = one_space; after = one_space }

means_further : (profile : Profile) (ks : List (List ℕ)) → AllOf (IsKeyText profile) ks
    → map further_value (map further_part ks) ≡ ks
means_further profile [] h = refl
means_further profile (k ∷ ks) h = let x = h.0.means in let y = means_further profile ks h.1 in cc

pub key_means : (profile : Profile) (k : List ℕ) (ks : List (List ℕ)) → AllOf (IsKeyText profile) (k ∷ ks)
    → keys_of (key_with (k ∷ ks)) ≡ k ∷ ks
key_means profile k ks h = let x = h.0.means in let y = means_further profile ks h.1 in cc
