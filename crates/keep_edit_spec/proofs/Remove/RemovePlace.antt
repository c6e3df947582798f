-- Where `remove` cuts in brackets: found by the value's own commas and places, and by the bytes of the text.
--
-- The definition cuts by the tree, the code by the stored value: its place, its commas, and the bytes there. The three
-- cuts of `RemoveEntry` are taken one by one (`next_placed`, `last_placed`, `alone_placed`). For each, the text is
-- written as what is before the cut, the cut and what is after it; the places are then sums of lengths. The gap that is
-- put back is found in the text by its `#` alone (`preserved_is`). White space after a comma ends where the scan of
-- bytes ends it (`run_ends`). `placed` brings this from the row of entries to the document.
--
-- Theorems: `entry_placed`: the change in brackets is at `entry_place` of the path's value.
use Rattle.std.proofs.Common.{◌≡◌, ℕ, suc, ◌+◌, ◌-◌, Bool, true, false, cond, ◌||◌, ◌==◌, List, [], ◌∷◌, ◌++◌, length}
use Rattle.std.proofs.Common.{map, drop, slice_get, refl, sym, ap, subst, ◌∙◌, append_assoc, length-append, arith}
use Rattle.std.proofs.Common.{Option, Some, None, inl, inr, drop_at, ◌<◌, ◌≤◌}
use Rattle.std.proofs.lemmas.Option.{same_Some}
use Rattle.keep_types.proofs.Shared.{one_of_two}
use Rattle.std.specs.Prelude.{codes, IsTrue, ⊤}
use Rattle.std.specs.List.{list_all, list_any, prefix_len}
use Rattle.std.proofs.lemmas.Bool.{and_parts}
use Rattle.std.proofs.lemmas.Bool.Decides.{nat_tests}
use Rattle.std.proofs.lemmas.List.{map-append}
use Rattle.keep_types.specs.declared.leaf.Leaf.{Leaf}
use Rattle.keep_types.specs.declared.leaf.Leaf.TheVariants as leaf
use Rattle.keep_types.specs.declared.leaf.Profile.{Profile}
use Rattle.keep_types.specs.declared.leaf.Profile.TheVariants.{Strict}
use Rattle.keep_token.specs.Abnf.{is_ws}
use Rattle.keep_token.specs.Leaves.{IsLeaf, is_gap_leaf}
use Rattle.keep_token.specs.Pieces.{first}
use Rattle.keep_syntax.specs.declared.info.Brackets.{Brackets}
use Rattle.keep_syntax.specs.declared.info.Brackets.TheVariants as brackets
use Rattle.keep_types.specs.declared.syntax.Owner.{Owner}
use Rattle.keep_types.specs.declared.syntax.Owner.TheVariants as owner
use Rattle.keep_types.specs.declared.syntax.Start.{Start}
use Rattle.keep_types.specs.declared.syntax.ValueInfo.{ValueInfo}
use Rattle.keep_syntax.specs.Tree.{Written, Gap, Body, scalar, array, inline, Entries, Value, Document, text_of, text}
use Rattle.keep_syntax.specs.Grammar.{IsBlank, AreEntries, IsDocument, place_in}
use Rattle.keep_syntax.specs.Numbered as syntax
use Rattle.keep_syntax.specs.Numbered.{span, nested_of, owner_in}
use Rattle.keep_syntax.specs.Reading.{close_byte}
use Rattle.keep_syntax.proofs.Shared.{is_solid}
use Rattle.keep_meaning.specs.KeyText.{text_at}
use Rattle.keep_path.specs.Path.{Part}
use Rattle.keep_meaning.specs.Marks.{Mention, below}
use Rattle.keep_meaning.specs.Meaning.{mentions_in}
use Rattle.keep_meaning.specs.Counts.{is_value, one_if, numbered_in}
use Rattle.keep_meaning.specs.Nodes.{numbered_at, last_number, value_number}
use Rattle.keep_meaning.proofs.Shared.{IsPart, part_taken, valued, valued-append, valued-below}
use Rattle.keep_edit_spec.specs.Changed.{Changed, Place, IsChangeOf, place_of, framed_change, within}
use Rattle.keep_edit_spec.specs.Values.{is_comment_leaf, preserved_gap, Row, take_out, removal}
use Rattle.keep_edit_spec.specs.Edits.{nested}
use Rattle.keep_edit_spec.specs.Removal.{past_space, is_hash, preserved_text, entry_place}
use Rattle.keep_edit_spec.proofs.Common.Runs.{Rules}
use Rattle.keep_edit_spec.proofs.Common.FoundValue.{IsFoundIn, Valid_document}
use Rattle.keep_edit_spec.proofs.Common.ValueNumber.{number_of_value}
use Rattle.keep_edit_spec.proofs.Values.ValuePlace.{get_here}
use Rattle.keep_edit_spec.proofs.Common.DoneAtValue.{EachOf}
use Rattle.keep_edit_spec.proofs.Remove.RemoveEntry.{Opens, IsCutWithNext, IsCutWithLast, IsCutAlone, IsCutOut, IsOut}
use Rattle.keep_edit_spec.proofs.Remove.RemoveEntry.{entry_out}

-- ---- a gap that holds a comment

any_join : (p : ℕ → Bool) (a b : List ℕ) → list_any p (a ++ b) ≡ (list_any p a || list_any p b)
any_join p [] b = refl
any_join p (x ∷ a) b = ap (λ r. p x || r) (any_join p a b) ∙ sym (or_assoc (p x) (list_any p a) (list_any p b))
  where
    or_assoc : (a b c : Bool) → ((a || b) || c) ≡ (a || (b || c))
    or_assoc true b c = refl
    or_assoc false b c = refl

no_hash : (t : List ℕ) → IsTrue (list_all is_ws t) → list_any is_hash t ≡ false
no_hash [] h = refl
no_hash (c ∷ t) h =
    let (one, more) = and_parts (is_ws c) (list_all is_ws t) h in
    ap (λ b. b || list_any is_hash t) (by c one) ∙ no_hash t more
  where
    by : (c : ℕ) → is_ws c ≡ true → is_hash c ≡ false
    by c h = grind (arith, nat_tests)

leaf_hash : (l : Leaf) (t : List ℕ) → IsTrue (is_gap_leaf l) → IsLeaf Strict l t
    → list_any is_hash t ≡ is_comment_leaf l
leaf_hash leaf.Ws t k i = no_hash t i.1
leaf_hash leaf.Newline t k (inl e) = ap (list_any is_hash) e
leaf_hash leaf.Newline t k (inr e) = ap (list_any is_hash) e
leaf_hash leaf.Comment t k (a, b, spelled, hash, all) =
    ap (list_any is_hash) (spelled ∙ ap (λ (x : List ℕ). x ++ b) hash)
leaf_hash _ t k i = absurd cc

gap_hash : (g : Gap) → IsBlank g → list_any is_hash (text_of g) ≡ list_any (λ (w : Written). is_comment_leaf w.leaf) g
gap_hash [] h = refl
gap_hash (w ∷ g) h =
    any_join is_hash w.text (text_of g) ∙ ap (λ b. b || list_any is_hash (text_of g)) (leaf_hash w.leaf w.text h.0 h.1)
    ∙ ap (λ b. is_comment_leaf w.leaf || b) (gap_hash g h.3)

pub preserved_is : (g : Gap) → IsBlank g → preserved_text (text_of g) ≡ text_of (preserved_gap g)
preserved_is g h =
    by (list_any is_hash (text_of g)) (list_any (λ (w : Written). is_comment_leaf w.leaf) g) (gap_hash g h)
  where
    by : (b c : Bool) → b ≡ c → cond b (text_of g) [] ≡ text_of (cond c g [])
    by true true e = refl
    by false false e = refl
    by true false e = absurd cc
    by false true e = absurd cc

-- ---- white space

pub run_ends : (t rest : List ℕ) → IsTrue (list_all is_ws t) → is_ws (first rest) ≡ false
    → prefix_len is_ws (t ++ rest) ≡ length t
run_ends [] [] h stop = refl
run_ends [] (c ∷ rest) h stop = ap (λ b. cond b (1 + prefix_len is_ws rest) 0) stop
run_ends (c ∷ t) rest h stop =
    let (one, more) = and_parts (is_ws c) (list_all is_ws t) h in
    ap (λ b. cond b (1 + prefix_len is_ws (t ++ rest)) 0) one ∙ omega (arith, run_ends t rest more stop)

-- ---- a cut, by the bytes

-- the bytes with the cut
record IsCutText (bytes : List ℕ) (start : ℕ) (old after : List ℕ) : Type 0 where
  before : List ℕ
  whole : bytes ≡ before ++ (old ++ after)
  place : length before ≡ start

-- a comma is there
pub record IsComma (bytes : List ℕ) (at : ℕ) : Type 0 where
  pub within : at < length bytes
  pub byte : first (drop at bytes) ≡ 0x2C

-- Where the value's parts are: its key or its text begins a part, and its commas are commas.
pub record IsEdged (bytes : List ℕ) (own : ValueInfo) : Type 0 where
  pub ordered : own.whole.start ≤ own.span.end
  pub opens : is_solid (first (drop own.whole.start bytes)) ≡ true
  pub after : (c : ℕ) → own.comma_after ≡ Some c → IsComma bytes c × (own.span.end ≤ c)
  pub before : (c : ℕ) → own.comma_after ≡ None → own.comma_before ≡ Some c
      → IsComma bytes c × (suc c ≤ own.whole.start)

abbrev place_at : ℕ → List ℕ → List ℕ → Place
place_at start old new = record { start = start; end = start + length old; new = new }

pub same_place : (a a' b b' : ℕ) (t t' : List ℕ) → a ≡ a' → b ≡ b' → t ≡ t'
    → (let x : Place = record { start = a; end = b; new = t } in
    let y : Place = record { start = a'; end = b'; new = t' } in x ≡ y)
same_place a a' b b' t t' e f g = cc

part_at : (bytes : List ℕ) (from to : ℕ) (t : List ℕ) → IsPart bytes from t → to ≡ from + length t
    → text_at bytes (span from to) ≡ t
part_at bytes from to t h e = part_taken bytes from (to - from) t h (omega (arith, e))

abbrev by_commas : List ℕ → ValueInfo → Option ℕ → Option ℕ → Place
by_commas bytes own after before = elim after [
  | Some comma ↦
      record {
        start = own.whole.start;
        end = past_space bytes (suc comma);
        new = preserved_text (text_at bytes (span own.span.end comma));
      }
  | None ↦ elim before [
    | Some comma ↦
        record {
          start = comma;
          end = own.span.end;
          new = preserved_text (text_at bytes (span (suc comma) own.whole.start));
        }
    | None ↦ record { start = own.whole.start; end = own.span.end; new = [] }
  ]
]

none_not : (o : Option ℕ) (a : ℕ) → o ≡ Some a → o ≡ None → ⊥
none_not o a e f = let k : Some a ≡ None = sym e ∙ f in absurd cc

opens_at : (bytes before text more : List ℕ) (at : ℕ) → Opens text → bytes ≡ before ++ (text ++ more)
    → length before ≡ at → is_solid (first (drop at bytes)) ≡ true
opens_at bytes before text more at opens whole place =
    ap (λ (t : List ℕ). is_solid (first (drop at t))) whole
    ∙ ap (λ (t : List ℕ). is_solid (first t)) (drop_at before (text ++ more) at place) ∙ opens more

comma_at : (bytes before more : List ℕ) (at : ℕ) → bytes ≡ before ++ (0x2C ∷ more) → length before ≡ at
    → IsComma bytes at
comma_at bytes before more at whole place = record {
  within = omega (arith, ap (λ (t : List ℕ). length t) whole, length-append before (0x2C ∷ more), place);
  byte = ap (λ (t : List ℕ). first (drop at t)) whole ∙ ap first (drop_at before (0x2C ∷ more) at place);
}

next_edged : (bytes : List ℕ) (own : ValueInfo) (start : ℕ) (old new after : List ℕ) → IsCutText bytes start old after
    → IsCutWithNext own start old new → IsEdged bytes own
next_edged bytes own start old new after at cut =
    let comma : ℕ = own.span.end + length (text_of cut.after) in
    let whole : bytes ≡ at.before ++ (cut.text ++ (text_of cut.after ++ (0x2C ∷ (cut.white ++ after)))) =
    at.whole ∙ ap (λ (t : List ℕ). at.before ++ (t ++ after)) cut.was
    ∙ spread at.before cut.text (text_of cut.after) cut.white after in
    let prefix_is : length (at.before ++ (cut.text ++ text_of cut.after)) ≡ comma =
    omega (
      arith,
      length-append at.before (cut.text ++ text_of cut.after),
      length-append cut.text (text_of cut.after),
      at.place,
      cut.begins,
      cut.ends,
    ) in
    record {
      ordered = omega (arith, cut.ends);
      opens = opens_at bytes at.before cut.text (text_of cut.after ++ (0x2C ∷ (cut.white ++ after))) own.whole.start
          cut.opens whole (at.place ∙ cut.begins);
      after = λ c e.
          subst (λ (n : ℕ). IsComma bytes n × (own.span.end ≤ n)) (one_of_two own.comma_after comma c cut.comma e) (
            comma_at bytes (at.before ++ (cut.text ++ text_of cut.after)) (cut.white ++ after) comma
                (whole ∙ three at.before cut.text (text_of cut.after) (0x2C ∷ (cut.white ++ after))) prefix_is,
            omega arith,
          );
      before = λ c e f. absurd (none_not own.comma_after comma cut.comma e);
    }
  where
    spread : (a b c d e : List ℕ) → a ++ ((b ++ (c ++ (0x2C ∷ d))) ++ e) ≡ a ++ (b ++ (c ++ (0x2C ∷ (d ++ e))))
    spread a b c d e = simp append_assoc refl

    three : (a b c d : List ℕ) → a ++ (b ++ (c ++ d)) ≡ (a ++ (b ++ c)) ++ d
    three a b c d = simp append_assoc refl

last_edged : (bytes : List ℕ) (own : ValueInfo) (start : ℕ) (old new after : List ℕ) → IsCutText bytes start old after
    → IsCutWithLast own start old new → IsEdged bytes own
last_edged bytes own start old new after at cut =
    let whole : bytes ≡ at.before ++ (0x2C ∷ (text_of cut.before ++ (cut.text ++ after))) =
    at.whole ∙ ap (λ (t : List ℕ). at.before ++ (t ++ after)) cut.was
    ∙ spread at.before (text_of cut.before) cut.text after in
    record {
      ordered = omega (arith, cut.ends);
      opens = opens_at bytes (at.before ++ (0x2C ∷ text_of cut.before)) cut.text after own.whole.start cut.opens
          (whole ∙ two at.before (text_of cut.before) (cut.text ++ after))
          (omega (arith, length-append at.before (0x2C ∷ text_of cut.before), at.place, cut.begins));
      after = λ c e. absurd (none_not own.comma_after c e cut.no_comma);
      before =
          λ c e f.
          subst (λ (n : ℕ). IsComma bytes n × (suc n ≤ own.whole.start))
          (one_of_two own.comma_before start c cut.comma f) (
            comma_at bytes at.before (text_of cut.before ++ (cut.text ++ after)) start whole at.place,
            omega (arith, cut.begins),
          );
    }
  where
    spread : (a b c d : List ℕ) → a ++ ((0x2C ∷ (b ++ c)) ++ d) ≡ a ++ (0x2C ∷ (b ++ (c ++ d)))
    spread a b c d = simp append_assoc refl

    two : (a b c : List ℕ) → a ++ (0x2C ∷ (b ++ c)) ≡ (a ++ (0x2C ∷ b)) ++ c
    two a b c = simp append_assoc refl

alone_edged : (bytes : List ℕ) (own : ValueInfo) (start : ℕ) (old new after : List ℕ) → IsCutText bytes start old after
    → IsCutAlone own start old new → IsEdged bytes own
alone_edged bytes own start old new after at cut = record {
  ordered = omega (arith, cut.ends);
  opens = opens_at bytes at.before old after own.whole.start cut.opens at.whole (at.place ∙ cut.begins);
  after = λ c e. absurd (none_not own.comma_after c e cut.no_comma);
  before = λ c e f. absurd (none_not own.comma_before c f cut.none_before);
}

cut_edged : (b : Brackets) (bytes : List ℕ) (own : ValueInfo) (start : ℕ) (old new after outside : List ℕ)
    → IsCutText bytes start old (after ++ outside) → IsCutOut b own start old new after → IsEdged bytes own
cut_edged b bytes own start old new after outside at (inl cut) =
    next_edged bytes own start old new (after ++ outside) at cut.0
cut_edged b bytes own start old new after outside at (inr (inl cut)) =
    last_edged bytes own start old new (after ++ outside) at cut
cut_edged b bytes own start old new after outside at (inr (inr cut)) =
    alone_edged bytes own start old new (after ++ outside) at cut

next_placed : (bytes : List ℕ) (own : ValueInfo) (start : ℕ) (old new after : List ℕ) → IsCutText bytes start old after
    → IsCutWithNext own start old new → is_ws (first after) ≡ false → entry_place bytes own ≡ place_at start old new
next_placed bytes own start old new after at cut stops =
    let comma : ℕ = own.span.end + length (text_of cut.after) in
    let prefix : List ℕ = at.before ++ (cut.text ++ text_of cut.after) in
    let whole : bytes ≡ prefix ++ (0x2C ∷ (cut.white ++ after)) =
    at.whole ∙ ap (λ (t : List ℕ). at.before ++ (t ++ after)) cut.was
    ∙ spread at.before cut.text (text_of cut.after) cut.white after in
    let prefix_is : length prefix ≡ comma =
    omega (
      arith,
      length-append at.before (cut.text ++ text_of cut.after),
      length-append cut.text (text_of cut.after),
      at.place,
      cut.begins,
      cut.ends,
    ) in
    let past : drop (suc comma) bytes ≡ cut.white ++ after =
    ap (drop (suc comma)) (whole ∙ sym (append_assoc prefix (0x2C ∷ []) (cut.white ++ after)))
    ∙ drop_at (prefix ++ (0x2C ∷ [])) (cut.white ++ after) (suc comma)
    (omega (arith, length-append prefix (0x2C ∷ []), prefix_is)) in
    let run : prefix_len is_ws (drop (suc comma) bytes) ≡ length cut.white =
    ap (prefix_len is_ws) past ∙ run_ends cut.white after cut.all_white stops in
    let gap : text_at bytes (span own.span.end comma) ≡ text_of cut.after =
    part_at bytes own.span.end comma (text_of cut.after)
    (record {
      prefix = at.before ++ cut.text;
      after = 0x2C ∷ (cut.white ++ after);
      place = omega (arith, length-append at.before cut.text, at.place, cut.begins, cut.ends);
      whole = whole ∙ two at.before cut.text (text_of cut.after) (0x2C ∷ (cut.white ++ after));
    }) refl in
    let preserved : preserved_text (text_at bytes (span own.span.end comma)) ≡ new =
    ap preserved_text gap ∙ preserved_is cut.after cut.blank ∙ sym cut.given in
    let long : length old ≡ length cut.text + (length (text_of cut.after) + suc (length cut.white)) =
    ap (λ (t : List ℕ). length t) cut.was ∙ length-append cut.text (text_of cut.after ++ (0x2C ∷ cut.white))
    ∙ ap (λ n. length cut.text + n) (length-append (text_of cut.after) (0x2C ∷ cut.white)) in
    ap (λ (o : Option ℕ). by_commas bytes own o own.comma_before) cut.comma
    ∙ same_place own.whole.start start (past_space bytes (suc comma)) (start + length old)
    (preserved_text (text_at bytes (span own.span.end comma))) new (sym cut.begins)
    (omega (arith, run, long, cut.begins, cut.ends)) preserved
  where
    spread : (a b c d e : List ℕ) → a ++ ((b ++ (c ++ (0x2C ∷ d))) ++ e) ≡ (a ++ (b ++ c)) ++ (0x2C ∷ (d ++ e))
    spread a b c d e = simp append_assoc refl

    two : (a b c d : List ℕ) → (a ++ (b ++ c)) ++ d ≡ (a ++ b) ++ (c ++ d)
    two a b c d = simp append_assoc refl

last_placed : (bytes : List ℕ) (own : ValueInfo) (start : ℕ) (old new after : List ℕ) → IsCutText bytes start old after
    → IsCutWithLast own start old new → entry_place bytes own ≡ place_at start old new
last_placed bytes own start old new after at cut =
    let whole : bytes ≡ (at.before ++ (0x2C ∷ [])) ++ (text_of cut.before ++ (cut.text ++ after)) =
    at.whole ∙ ap (λ (t : List ℕ). at.before ++ (t ++ after)) cut.was
    ∙ spread at.before (text_of cut.before) cut.text after in
    let gap : text_at bytes (span (suc start) own.whole.start) ≡ text_of cut.before =
    part_at bytes (suc start) own.whole.start (text_of cut.before)
    (record {
      prefix = at.before ++ (0x2C ∷ []);
      after = cut.text ++ after;
      place = omega (arith, length-append at.before (0x2C ∷ []), at.place);
      whole = whole;
    })
    (omega (arith, cut.begins)) in
    let preserved : preserved_text (text_at bytes (span (suc start) own.whole.start)) ≡ new =
    ap preserved_text gap ∙ preserved_is cut.before cut.blank ∙ sym cut.given in
    let long : length old ≡ suc (length (text_of cut.before) + length cut.text) =
    ap (λ (t : List ℕ). length t) cut.was ∙ ap suc (length-append (text_of cut.before) cut.text) in
    ap (λ (o : Option ℕ). by_commas bytes own o own.comma_before) cut.no_comma
    ∙ ap (λ (o : Option ℕ). by_commas bytes own None o) cut.comma
    ∙ same_place start start own.span.end (start + length old)
    (preserved_text (text_at bytes (span (suc start) own.whole.start))) new refl
    (omega (arith, long, cut.begins, cut.ends)) preserved
  where
    spread : (a b c d : List ℕ) → a ++ ((0x2C ∷ (b ++ c)) ++ d) ≡ (a ++ (0x2C ∷ [])) ++ (b ++ (c ++ d))
    spread a b c d = simp append_assoc refl

alone_placed : (bytes : List ℕ) (own : ValueInfo) (start : ℕ) (old new : List ℕ) → IsCutAlone own start old new
    → entry_place bytes own ≡ place_at start old new
alone_placed bytes own start old new cut =
    ap (λ (o : Option ℕ). by_commas bytes own o own.comma_before) cut.no_comma
    ∙ ap (λ (o : Option ℕ). by_commas bytes own None o) cut.none_before
    ∙ same_place own.whole.start start own.span.end (start + length old) [] new (sym cut.begins)
    (omega (arith, cut.begins, cut.ends)) (sym cut.given)

cut_placed : (b : Brackets) (bytes : List ℕ) (own : ValueInfo) (start : ℕ) (old new after outside : List ℕ)
    → IsCutText bytes start old (after ++ outside) → IsCutOut b own start old new after
    → (first outside == close_byte b) ≡ true → entry_place bytes own ≡ place_at start old new
cut_placed b bytes own start old new after outside at (inl cut) closed =
    next_placed bytes own start old new (after ++ outside) at cut.0 (cut.1 outside closed)
cut_placed b bytes own start old new after outside at (inr (inl cut)) closed =
    last_placed bytes own start old new (after ++ outside) at cut
cut_placed b bytes own start old new after outside at (inr (inr cut)) closed = alone_placed bytes own start old new cut

-- ---- in a document

-- it is the value of the path's number
pub record IsValueAt (path : List Part) (s : Document) (own : ValueInfo) : Type 0 where
  pub number : ℕ
  pub is : last_number is_value value_number (numbered_at path (numbered_in s)) ≡ Some number
  pub here : slice_get (syntax.values s) number ≡ Some own

pub value_at_split : (path : List Part) (s : Document) (earlier : List Mention) (m : Mention) (later : List Mention)
    (prefix : List ValueInfo) (own : ValueInfo) (others : List ValueInfo)
    → Rules (mentions_in s) → mentions_in s ≡ earlier ++ m ∷ later → m.path ≡ path → is_value m.kind ≡ true
    → syntax.values s ≡ prefix ++ own ∷ others → valued earlier ≡ length prefix → IsValueAt path s own
value_at_split path s earlier m later prefix own others rules mentioned place tells here count = record {
  number = valued earlier;
  is = number_of_value path s earlier m later rules mentioned place tells;
  here = ap (λ (l : List ValueInfo). slice_get l (valued earlier)) here
      ∙ get_here prefix own others (valued earlier) count;
}

-- a value in brackets
abbrev pub IsNested : Owner → Type 0
IsNested (owner.Line i) = ⊥
IsNested _ = ⊤

pub record IsEntryPlaced (path : List Part) (s : Document) (c : Changed Document) : Type 0 where
  pub own : ValueInfo
  pub value : IsValueAt path s own
  pub nested : IsNested own.owner
  pub edged : IsEdged (text s) own
  pub place : entry_place (text s) own ≡ place_of c

-- what was taken out of a row, seen from its value
record IsRowOut (b : Brackets) (more : List Part) (begin : ℕ) (p : Start) (nested : Entries) (left right : List ℕ)
    (done : Changed Value) : Type 0 where
  row : Changed Row
  out : IsOut b more 0 begin p nested row
  before : done.before ≡ left ++ row.before
  old : done.old ≡ row.old
  new : done.new ≡ row.new
  after : done.after ≡ row.after ++ right

row_out : (b : Brackets) (more : List Part) (begin : ℕ) (p : Start) (nested : Entries) (outer : Row → Value)
    (left right : List ℕ) (done : Changed Value) (o : Option (Changed Row))
    → EachOf (IsOut b more 0 begin p nested) o → within outer left right o ≡ Some done
    → IsRowOut b more begin p nested left right done
row_out b more begin p nested outer left right done None h e = absurd cc
row_out b more begin p nested outer left right done (Some d) h e =
    let k : framed_change outer left right d ≡ done = same_Some (framed_change outer left right d) done e in
    record {
      row = d;
      out = h;
      before = sym (ap (λ (x : Changed Value). x.before) k);
      old = sym (ap (λ (x : Changed Value). x.old) k);
      new = sym (ap (λ (x : Changed Value). x.new) k);
      after = sym (ap (λ (x : Changed Value). x.after) k);
    }

valued_one : (m : Mention) (ms : List Mention) → is_value m.kind ≡ true → valued (m ∷ ms) ≡ suc (valued ms)
valued_one m ms e = ap (λ b. one_if b + valued ms) e ∙ omega arith

module _ (profile : Profile) (path : List Part) (s : Document) (valid : IsDocument profile s)
    (rules : Rules (mentions_in s)) (c : Changed Document) (cut : IsChangeOf text s c)
    (h : IsFoundIn removal (Valid_document s) 0 path (mentions_in s) (syntax.values s) c) where
  placed : (b : Brackets) (left right : List ℕ) → length left ≡ 1
      → ((x : List ℕ) → (first (right ++ x) == close_byte b) ≡ true) → IsNested (owner_in h.value.body h.begin.values)
      → IsRowOut b h.more (h.from + 1) (nested_of h.begin h.from h.keys h.value.body) h.value.nested left right h.done
      → IsEntryPlaced path s c
  placed b left right one closed nested row =
      let p : Start = nested_of h.begin h.from h.keys h.value.body in
      let q : List Part = h.mention.path in
      let e = row.out in
      let d : Changed Row = row.row in
      let start : ℕ = h.from + 1 + length d.before in
      let begins : h.own.span.start ≡ h.from = ap (λ (i : ValueInfo). i.span.start) h.stated in
      let prefix : length c.before ≡ start =
      omega (arith, h.start, begins, one, ap (λ (t : List ℕ). length t) row.before, length-append left d.before) in
      let old : c.old ≡ d.old = h.old ∙ row.old in
      let after : c.after ≡ d.after ++ (right ++ h.beyond) =
      h.text_after ∙ ap (λ (t : List ℕ). t ++ h.beyond) row.after ∙ append_assoc d.after right h.beyond in
      let at : IsCutText (text s) start d.old (d.after ++ (right ++ h.beyond)) =
      record {
        before = c.before;
        whole = cut.was ∙ ap (λ (t : List ℕ). c.before ++ (t ++ c.after)) old
            ∙ ap (λ (t : List ℕ). c.before ++ (d.old ++ t)) after;
        place = prefix;
      } in
      let earlier : List Mention = h.earlier ++ h.mention ∷ map (below q) e.earlier in
      let later : List Mention = map (below q) e.later ++ h.further in
      let mentioned : mentions_in s ≡ earlier ++ below q e.mention ∷ later =
      h.mentioned
      ∙ ap (λ (l : List Mention). h.earlier ++ h.mention ∷ l)
      (h.within_mentioned ∙ ap (λ (l : List Mention). map (below q) l ++ h.further) e.mentioned
      ∙ ap (λ (l : List Mention). l ++ h.further) (map-append (below q) e.earlier (e.mention ∷ e.later)))
      ∙ regroup h.earlier (map (below q) e.earlier) (map (below q) e.later) h.further h.mention (below q e.mention) in
      let values : syntax.values s ≡ (h.prefix ++ h.own ∷ e.prefix) ++ e.own ∷ (e.others ++ h.others) =
      h.here
      ∙ ap (λ (l : List ValueInfo). h.prefix ++ h.own ∷ l)
      (h.within_values ∙ ap (λ (l : List ValueInfo). l ++ h.others) e.here)
      ∙ regroup_values h.prefix e.prefix e.others h.others h.own e.own in
      let count : valued earlier ≡ length (h.prefix ++ h.own ∷ e.prefix) =
      omega (
        arith,
        valued-append h.earlier (h.mention ∷ map (below q) e.earlier),
        valued_one h.mention (map (below q) e.earlier) h.tells,
        valued-below q e.earlier,
        e.count,
        h.count,
        length-append h.prefix (h.own ∷ e.prefix),
      ) in
      record {
        own = e.own;
        value = value_at_split path s earlier (below q e.mention) later (h.prefix ++ h.own ∷ e.prefix) e.own
            (e.others ++ h.others) rules mentioned
            (ap (λ (x : List Part). q ++ x) e.place ∙ sym h.place) e.tells values count;
        nested = subst IsNested (sym e.owner) nested;
        edged = cut_edged b (text s) e.own start d.old d.new d.after (right ++ h.beyond) at e.cut;
        place = cut_placed b (text s) e.own start d.old d.new d.after (right ++ h.beyond) at e.cut (closed h.beyond)
            ∙ same_place start (length c.before) (start + length d.old) (length c.before + length c.old) d.new c.new
            (sym prefix)
            (omega (arith, prefix, ap (λ (t : List ℕ). length t) old)) (sym (h.new ∙ row.new));
      }
    where
      regroup : (a b c d : List Mention) (m n : Mention) → a ++ m ∷ ((b ++ n ∷ c) ++ d) ≡ (a ++ m ∷ b) ++ n ∷ (c ++ d)
      regroup a b c d m n = simp append_assoc refl

      regroup_values : (a b c d : List ValueInfo) (m n : ValueInfo)
          → a ++ m ∷ ((b ++ n ∷ c) ++ d) ≡ (a ++ m ∷ b) ++ n ∷ (c ++ d)
      regroup_values a b c d m n = simp append_assoc refl

  of_body : (body : Body) → h.value.body ≡ body
      → removal h.more (record { body = body; nested = h.value.nested }) ≡ Some h.done → IsEntryPlaced path s c
  of_body (scalar w) e by = absurd cc
  of_body (array g) e by =
      let p : Start = nested_of h.begin h.from h.keys h.value.body in
      let at : h.from + 1 + length (text_of g) ≡ p.at =
      omega (arith, ap (λ (x : Body). (nested_of h.begin h.from h.keys x).at) e) in
      let are = subst (λ (x : Body). AreEntries profile (place_in x) h.value.nested) e (h.valid profile valid).nested in
      placed brackets.Array (codes "[") (codes "]") refl (λ x. refl)
      (subst (λ (x : Body). IsNested (owner_in x h.begin.values)) (sym e) tt)
      (row_out brackets.Array h.more (h.from + 1) p h.value.nested
      (λ r. record { body = array r.gap; nested = r.entries }) (codes "[") (codes "]") h.done
      (take_out h.more 0 g h.value.nested)
      (entry_out profile brackets.Array h.more 0 (h.from + 1) g p h.value.nested at are (inl refl)) by)
  of_body (inline g) e by =
      let p : Start = nested_of h.begin h.from h.keys h.value.body in
      let at : h.from + 1 + length (text_of g) ≡ p.at =
      omega (arith, ap (λ (x : Body). (nested_of h.begin h.from h.keys x).at) e) in
      let are = subst (λ (x : Body). AreEntries profile (place_in x) h.value.nested) e (h.valid profile valid).nested in
      placed brackets.Inline (codes "{") (codes "}") refl (λ x. refl)
      (subst (λ (x : Body). IsNested (owner_in x h.begin.values)) (sym e) tt)
      (row_out brackets.Inline h.more (h.from + 1) p h.value.nested
      (λ r. record { body = inline r.gap; nested = r.entries }) (codes "{") (codes "}") h.done
      (take_out h.more 0 g h.value.nested)
      (entry_out profile brackets.Inline h.more 0 (h.from + 1) g p h.value.nested at are (inl refl)) by)

  pub entry_placed : IsEntryPlaced path s c
  entry_placed = of_body h.value.body refl h.by
