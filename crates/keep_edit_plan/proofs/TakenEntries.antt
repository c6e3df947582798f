-- Where an entry is taken out of brackets, by the places of the entries.
--
-- A remove goes along the entries to the one that the path names. Each entry on the way moves the text by the bytes
-- that its place says (`round_split`, `at_further`), so an induction over the places before that entry shows where the
-- text is cut, and that the other entries are where the places that are left say. The three cuts are the three cases of
-- `IsCutOf`; what the bytes say of the gaps and commas is known from `CommaGaps`.
--
-- Theorems: `taken_with_comma`, `taken_at_end`, `taken_alone`.
use Rattle.std.proofs.Common.{◌≡◌, ℕ, zero, suc, ◌+◌, ◌-◌, Bool, true, false, List, [], ◌∷◌, ◌++◌, length, drop, refl}
use Rattle.std.proofs.Common.{sym, ap, ◌∙◌, subst, arith, append_assoc, length-append, Option, Some, None, ◌==◌}
use Rattle.std.specs.Prelude.{codes}
use Rattle.std.proofs.Math.Seq.{drop-append-add}
use Rattle.keep_types.specs.declared.leaf.Profile.TheVariants.{Strict}
use Rattle.keep_token.specs.Scanning.{first}
use Rattle.keep_syntax.specs.declared.info.Brackets.{Brackets}
use Rattle.keep_syntax.specs.Tree.{Body, Entries, Gap, Name, comma_leaves, entry, none, text_of}
use Rattle.keep_syntax.specs.Grammar.{AreEntries}
use Rattle.keep_syntax.specs.Reading.{close_byte}
use Rattle.keep_syntax.proofs.Shared.{entries_begin, place_of}
use Rattle.keep_path.specs.Path.{Part, same_path}
use Rattle.keep_meaning.specs.Meaning.{step}
use Rattle.keep_edit_spec.specs.Changed.{Changed, framed_change, within}
use Rattle.keep_edit_spec.specs.Values.{Row, entries_text, entry_prefix, is_last_named, joined_gap, past_ws}
use Rattle.keep_edit_spec.specs.Values.{prefix_ws, preserved_gap, take_out, taken_first, taken_last, taken_only}
use Rattle.keep_edit_spec.proofs.Shared.{entry-text, joined_gap-text, past_ws-text}
use Rattle.keep_edit_plan.specs.OpenValues.{AreLaid}
use Rattle.keep_edit_plan.specs.OpenPlaces.{extent}
use Rattle.keep_edit_plan.specs.TakenEntries.{HasNoComma, IsCommaRun, IsLastGap, joined}
use Rattle.keep_edit_plan.specs.declared.open_value.EntryPlace.{EntryPlace}
use Rattle.keep_edit_plan.proofs.CommaGaps.{IsCommaAfter, IsLastAfter, closing_after, comma_after, last_after, no_comma}

-- Entry number n of these is the first that the path names; the first of these has number k.
abbrev pub IsHit : List Part → ℕ → ℕ → Entries → Type 0
IsHit path k n none = ⊥
IsHit path k zero (entry name body nested after comma rest) = same_path (step k name) path ≡ true
IsHit path k (suc n) (entry name body nested after comma rest) =
    (same_path (step k name) path ≡ false) × IsHit path (k + 1) n rest

-- what is made of entries: where the text is cut, and where the entries are that are left
pub record IsTaken (o : Option (Changed Row)) (start size : ℕ) (lead : ℕ) (left : List EntryPlace) : Type 0 where
  pub made : Changed Row
  pub by : o ≡ Some made
  pub start_is : lead + length made.before ≡ start
  pub size_is : length made.old ≡ size
  pub new_is : made.new ≡ []
  pub laid : AreLaid (lead + length (text_of made.to.gap)) made.to.entries left

-- ---- along the entries

-- the text of a gap and the entries after it, with what comes before and after
abbrev pub round : List ℕ → Gap → Entries → List ℕ → List ℕ
round lead gap es right = lead ++ (text_of gap ++ (entries_text es ++ right))

-- up to the end of the first entry
abbrev pub to_end : List ℕ → Gap → Option Name → Body → Entries → List ℕ
to_end lead gap name body nested = lead ++ (text_of gap ++ entry_prefix name body nested)

pub end_split : (lead : List ℕ) (gap : Gap) (name : Option Name) (body : Body) (nested : Entries) (after : Gap)
    (comma : Option Gap) (rest : Entries) (right : List ℕ)
    → round lead gap (entry name body nested after comma rest) right
    ≡ to_end lead gap name body nested
    ++ (text_of after ++ (text_of (comma_leaves comma) ++ (entries_text rest ++ right)))
end_split lead gap name body nested after comma rest right =
    ap (λ (t : List ℕ). lead ++ (text_of gap ++ (t ++ right))) (entry-text name body nested after comma rest)
    ∙ simp append_assoc refl

pub round_split : (lead : List ℕ) (gap : Gap) (name : Option Name) (body : Body) (nested : Entries) (after : Gap)
    (next_gap : Gap) (rest : Entries) (right : List ℕ)
    → round lead gap (entry name body nested after (Some next_gap) rest) right
    ≡ to_end lead gap name body nested ++ round (text_of after ++ codes ",") next_gap rest right
round_split lead gap name body nested after next_gap rest right =
    end_split lead gap name body nested after (Some next_gap) rest right ∙ simp append_assoc refl

pub end_len : (lead : List ℕ) (gap : Gap) (name : Option Name) (body : Body) (nested : Entries) (p : EntryPlace)
    → p.gap ≡ length lead + length (text_of gap) → p.len ≡ length (entry_prefix name body nested)
    → length (to_end lead gap name body nested) ≡ p.gap + p.len
end_len lead gap name body nested p eg el =
    omega (
      arith,
      length-append lead (text_of gap ++ entry_prefix name body nested),
      length-append (text_of gap) (entry_prefix name body nested),
    )

pub drop_past : (a b : List ℕ) (m n : ℕ) → n ≡ length a + m → drop n (a ++ b) ≡ drop m b
drop_past a b m n e = ap (λ (k : ℕ). drop k (a ++ b)) e ∙ drop-append-add a b m

-- What is said of the bytes at a place past the first entry is said of those past it.
at_further : (P : List ℕ → Type 0) (lead : List ℕ) (gap : Gap) (name : Option Name) (body : Body) (nested : Entries)
    (after next_gap : Gap) (rest : Entries) (right : List ℕ) (b : EntryPlace) (n m : ℕ)
    → b.gap ≡ length lead + length (text_of gap) → b.len ≡ length (entry_prefix name body nested)
    → n ≡ (b.gap + b.len) + m
    → P (drop n (round lead gap (entry name body nested after (Some next_gap) rest) right))
    → P (drop m (round (text_of after ++ codes ",") next_gap rest right))
at_further P lead gap name body nested after next_gap rest right b n m eg el e h =
    subst P
    (ap (drop n) (round_split lead gap name body nested after next_gap rest right)
    ∙ drop_past (to_end lead gap name body nested) (round (text_of after ++ codes ",") next_gap rest right) m n
    (e ∙ ap (λ (k : ℕ). k + m) (sym (end_len lead gap name body nested b eg el)))) h

-- what comes after the first entry
at_first : (P : List ℕ → Type 0) (lead : List ℕ) (gap : Gap) (name : Option Name) (body : Body) (nested : Entries)
    (after : Gap) (comma : Option Gap) (rest : Entries) (right : List ℕ) (p : EntryPlace) (n : ℕ)
    → p.gap ≡ length lead + length (text_of gap) → p.len ≡ length (entry_prefix name body nested)
    → n ≡ p.gap + p.len → P (drop n (round lead gap (entry name body nested after comma rest) right))
    → P (text_of after ++ (text_of (comma_leaves comma) ++ (entries_text rest ++ right)))
at_first P lead gap name body nested after comma rest right p n eg el e h =
    subst P
    (ap (drop n) (end_split lead gap name body nested after comma rest right)
    ∙ drop_past (to_end lead gap name body nested) _ 0 n
    (omega (arith, end_len lead gap name body nested p eg el))) h

-- the change of the entries after one, as a change of that and these
taken_further : (o : Option (Changed Row)) (start size : ℕ) (left : List EntryPlace) (gap : Gap) (n : ℕ)
    (name : Option Name) (body : Body) (nested : Entries) (after : Gap) (b : EntryPlace) (start' : ℕ)
    → IsTaken o start size (length (text_of after ++ codes ",")) left
    → b.gap ≡ n + length (text_of gap) → b.len ≡ length (entry_prefix name body nested)
    → start' ≡ (b.gap + b.len) + start
    → IsTaken (within (λ (r : Row). record { gap = gap; entries = entry name body nested after (Some r.gap) r.entries })
    (text_of gap ++ (entry_prefix name body nested ++ (text_of after ++ codes ","))) [] o) start' size n (b ∷ left)
taken_further o start size left gap n name body nested after b start' t eg el e =
    let outer : Row → Row =
    λ r. record { gap = gap; entries = entry name body nested after (Some r.gap) r.entries } in
    let l : List ℕ = text_of gap ++ (entry_prefix name body nested ++ (text_of after ++ codes ",")) in
    let c = t.made in
    record {
      made = framed_change outer l [] c;
      by = ap (within outer l []) t.by;
      start_is = omega (
        arith,
        t.start_is,
        length-append l c.before,
        length-append (text_of gap)
            (entry_prefix name body nested ++ (text_of after ++ codes ",")),
        length-append (entry_prefix name body nested) (text_of after ++ codes ","),
      );
      size_is = t.size_is;
      new_is = t.new_is;
      laid = (
        eg,
        (
          el,
          subst (λ (k : ℕ). AreLaid k c.to.entries left)
              (let e : length (text_of after ++ codes ",") + length (text_of c.to.gap)
              ≡ length (text_of after) + suc (length (text_of c.to.gap)) =
              omega (arith, length-append (text_of after) (codes ",")) in e) t.laid,
        ),
      );
    }

-- ---- the entry that goes is not the one after the first

not_last : (path : List Part) (k gap : ℕ) (es : Entries) (p q : EntryPlace) (ps : List EntryPlace)
    → AreLaid gap es (p ∷ q ∷ ps) → is_last_named path k es ≡ false
not_last path k gap none p q ps laid = absurd laid
not_last path k gap (entry name body nested after None none) p q ps laid = absurd laid.1.1
not_last path k gap (entry name body nested after None (entry n b s a c r)) p q ps laid = refl
not_last path k gap (entry name body nested after (Some g) rest) p q ps laid = refl

not_last_among : (path : List Part) (k gap : ℕ) (es : Entries) (bs : List EntryPlace) (p q : EntryPlace)
    (ps : List EntryPlace) → AreLaid gap es (bs ++ (p ∷ q ∷ ps)) → is_last_named path k es ≡ false
not_last_among path k gap es [] p q ps laid = not_last path k gap es p q ps laid
not_last_among path k gap es (b ∷ []) p q ps laid = not_last path k gap es b p (q ∷ ps) laid
not_last_among path k gap es (b ∷ c ∷ bs) p q ps laid = not_last path k gap es b c (bs ++ (p ∷ q ∷ ps)) laid

-- which of three is made
abbrev pick : Bool → Bool → Option (Changed Row) → Option (Changed Row) → Option (Changed Row) → Option (Changed Row)
pick b c x y z = elim b [ true ↦ x | false ↦ elim c [ true ↦ y | false ↦ z ] ]

pick_first : (P : Option (Changed Row) → Type 0) (b c : Bool) (x y z : Option (Changed Row)) → b ≡ true → P x
    → P (pick b c x y z)
pick_first P true c x y z e h = h
pick_first P false c x y z e h = absurd cc

pick_second : (P : Option (Changed Row) → Type 0) (b c : Bool) (x y z : Option (Changed Row)) → b ≡ false → c ≡ true
    → P y → P (pick b c x y z)
pick_second P false true x y z e f h = h
pick_second P true c x y z e f h = absurd cc
pick_second P false false x y z e f h = absurd cc

pick_third : (P : Option (Changed Row) → Type 0) (b c : Bool) (x y z : Option (Changed Row)) → b ≡ false → c ≡ false
    → P z → P (pick b c x y z)
pick_third P false false x y z e f h = h
pick_third P true c x y z e f h = absurd cc
pick_third P false true x y z e f h = absurd cc

module _ (path : List Part) (k : ℕ) (gap : Gap) (name : Option Name) (body : Body) (nested : Entries)
    (after next_gap : Gap) (name' : Option Name) (body' : Body) (nested' : Entries) (after' : Gap) (comma' : Option Gap)
    (rest' : Entries) where
  abbrev others : Entries
  others = entry name' body' nested' after' comma' rest'

  abbrev here_first : Option (Changed Row)
  here_first = Some (taken_first gap name body nested after next_gap others)

  abbrev next_last : Option (Changed Row)
  next_last = Some (taken_last gap name body nested after next_gap name' body' nested' after')

  abbrev among_others : Option (Changed Row)
  among_others =
      within (λ (r : Row). record { gap = gap; entries = entry name body nested after (Some r.gap) r.entries })
      (text_of gap ++ (entry_prefix name body nested ++ (text_of after ++ codes ","))) []
      (take_out path (k + 1) next_gap others)

  abbrev whole : Option (Changed Row)
  whole = take_out path k gap (entry name body nested after (Some next_gap) others)

  take_first : (P : Option (Changed Row) → Type 0) → same_path (step k name) path ≡ true → P here_first → P whole
  take_first P e h =
      pick_first P (same_path (step k name) path) (is_last_named path (k + 1) others) here_first next_last
      among_others e h

  take_last : (P : Option (Changed Row) → Type 0) → same_path (step k name) path ≡ false
      → is_last_named path (k + 1) others ≡ true → P next_last → P whole
  take_last P e f h =
      pick_second P (same_path (step k name) path) (is_last_named path (k + 1) others) here_first next_last among_others
      e f h

  take_further : (P : Option (Changed Row) → Type 0) → same_path (step k name) path ≡ false
      → is_last_named path (k + 1) others ≡ false → P among_others → P whole
  take_further P e f h =
      pick_third P (same_path (step k name) path) (is_last_named path (k + 1) others) here_first next_last among_others
      e f h

-- ---- with the comma after it

-- the entries after one that goes, as they are laid
joined_laid : (rest : Entries) (ps : List EntryPlace) (m k bytes gone : ℕ) → AreLaid m rest ps → k + gone ≡ bytes + m
    → AreLaid k rest (joined bytes gone ps)
joined_laid none [] m k bytes gone laid e = tt
joined_laid none (p ∷ ps) m k bytes gone laid e = absurd laid
joined_laid (entry name body nested after comma rest) [] m k bytes gone laid e = absurd laid
joined_laid (entry name body nested after comma rest) (p ∷ ps) m k bytes gone laid e =
    (let size : bytes + p.gap - gone ≡ k = omega (arith, laid.0, e) in size, laid.1)

first_taken : (n : ℕ) (gap : Gap) (name : Option Name) (body : Body) (nested : Entries) (after next_gap : Gap)
    (rest : Entries) (here : EntryPlace) (ps : List EntryPlace) (run : ℕ)
    → AreLaid (n + length (text_of gap)) (entry name body nested after (Some next_gap) rest) (here ∷ ps)
    → IsCommaAfter after next_gap run
    → IsTaken (Some (taken_first gap name body nested after next_gap rest)) (0 + here.gap) (here.len + run) n
    (joined (here.gap + here.len) (here.len + run) ps)
first_taken n gap name body nested after next_gap rest here ps run laid comma =
    let c = taken_first gap name body nested after next_gap rest in
    let no : length (text_of after) ≡ 0 = ap (λ (g : Gap). length (text_of g)) comma.before in
    let whole : length (text_of next_gap) ≡ length (text_of (prefix_ws next_gap))
    + length (text_of (past_ws next_gap)) =
    ap length (past_ws-text next_gap) ∙ length-append (text_of (prefix_ws next_gap)) (text_of (past_ws next_gap)) in
    let one : length (codes "," ++ text_of (prefix_ws next_gap)) ≡ suc (length (text_of (prefix_ws next_gap))) =
    length-append (codes ",") (text_of (prefix_ws next_gap)) ∙ omega arith in
    let left : c.to.gap ≡ joined_gap gap (past_ws next_gap) =
    ap (λ (g : Gap). joined_gap gap (joined_gap (preserved_gap g) (past_ws next_gap))) comma.before in
    let long : length (text_of c.to.gap) ≡ length (text_of gap) + length (text_of (past_ws next_gap)) =
    ap (λ (g : Gap). length (text_of g)) left ∙ ap length (joined_gap-text gap (past_ws next_gap))
    ∙ length-append (text_of gap) (text_of (past_ws next_gap)) in
    let more : length (text_of (comma_leaves (Some next_gap))) ≡ suc (length (text_of next_gap)) = omega arith in
    record {
      made = c;
      by = refl;
      start_is = omega (arith, laid.0);
      size_is = omega (
        arith,
        laid.1.0,
        comma.len,
        length-append (entry_prefix name body nested) (text_of after ++ (codes "," ++ text_of (prefix_ws next_gap))),
        length-append (text_of after) (codes "," ++ text_of (prefix_ws next_gap)),
      );
      new_is = ap (λ (g : Gap). text_of (preserved_gap g)) comma.before;
      laid = joined_laid rest ps (length (text_of after) + length (text_of (comma_leaves (Some next_gap))))
          (n + length (text_of c.to.gap)) (here.gap + here.len) (here.len + run) laid.1.1
          (omega (arith, laid.0, comma.len));
    }

when : (P : Option (Changed Row) → Type 0) (b : Bool) (c : Changed Row) → b ≡ true → P (Some c)
    → P (elim b [ true ↦ Some c | false ↦ None ])
when P true c e h = h
when P false c e h = absurd cc

module _ (b : Brackets) (path : List Part) (right : List ℕ) (closed : (first right == close_byte b) ≡ true)
    (here : EntryPlace) (ps : List EntryPlace) (run : ℕ) where
  abbrev HasRun : List ℕ → Gap → Entries → List EntryPlace → Type 0
  HasRun lead gap es before =
      IsCommaRun run (drop (extent before + (here.gap + here.len)) (round lead gap es right))

  -- The last entry has no comma after it.
  comma_not_last : (k n : ℕ) (lead : List ℕ) (gap : Gap) (es : Entries) (before : List EntryPlace)
      → AreEntries Strict (place_of b) es → IsHit path k n es → length before ≡ n
      → AreLaid (length lead + length (text_of gap)) es (before ++ (here ∷ ps)) → HasRun lead gap es before
      → is_last_named path k es ≡ false
  comma_not_last k n lead gap none before valid hit count laid run_is = refl
  comma_not_last k n lead gap (entry name body nested after None none) [] valid hit count laid run_is =
      let first_run : IsCommaRun run (text_of after ++ ([] ++ ([] ++ right))) =
      at_first (IsCommaRun run) lead gap name body nested after None none right here (0 + (here.gap + here.len)) laid.0
      laid.1.0 (omega arith) run_is in
      absurd (closing_after b after right valid.3 closed first_run.0)
  comma_not_last k zero lead gap (entry name body nested after None none) (c ∷ cs) valid hit count laid run_is =
      absurd (omega arith)
  comma_not_last k (suc n) lead gap (entry name body nested after None none) (c ∷ cs) valid hit count laid run_is =
      absurd hit.1
  comma_not_last k n lead gap (entry name body nested after None (entry n2 b2 s2 a2 c2 r2)) before valid hit count laid
      run_is = refl
  comma_not_last k n lead gap (entry name body nested after (Some g) rest) before valid hit count laid run_is = refl

  pub taken_with_comma : (k n : ℕ) (lead : List ℕ) (gap : Gap) (es : Entries) (before : List EntryPlace)
      → AreEntries Strict (place_of b) es → IsHit path k n es → length before ≡ n
      → AreLaid (length lead + length (text_of gap)) es (before ++ (here ∷ ps)) → HasRun lead gap es before
      → IsTaken (take_out path k gap es) (extent before + here.gap) (here.len + run) (length lead)
      (before ++ joined (here.gap + here.len) (here.len + run) ps)
  taken_with_comma k n lead gap none [] valid hit count laid run_is = absurd laid
  taken_with_comma k n lead gap none (c ∷ cs) valid hit count laid run_is = absurd laid
  taken_with_comma k (suc n) lead gap (entry name body nested after comma rest) [] valid hit count laid run_is =
      absurd (omega arith)
  taken_with_comma k zero lead gap (entry name body nested after comma rest) (c ∷ cs) valid hit count laid run_is =
      absurd (omega arith)
  taken_with_comma k zero lead gap (entry name body nested after None none) [] valid hit count laid run_is =
      let first_run : IsCommaRun run (text_of after ++ ([] ++ ([] ++ right))) =
      at_first (IsCommaRun run) lead gap name body nested after None none right here (0 + (here.gap + here.len)) laid.0
      laid.1.0 (omega arith) run_is in
      absurd (closing_after b after right valid.3 closed first_run.0)
  taken_with_comma k n lead gap
      (entry name body nested after None (entry name' body' nested' after' comma' rest')) before valid hit count laid
      run_is = absurd valid.4
  taken_with_comma k zero lead gap (entry name body nested after (Some next_gap) none) [] valid hit count laid run_is =
      when (λ (o : Option (Changed Row)). IsTaken o (0 + here.gap) (here.len + run) (length lead)
      (joined (here.gap + here.len) (here.len + run) ps)) (same_path (step k name) path)
      (taken_first gap name body nested after next_gap none) hit
      (first_taken (length lead) gap name body nested after next_gap none here ps run laid
      (comma_after b after next_gap (entries_text none ++ right) run valid.3 valid.4.0
      (entries_begin Strict b none right valid.5 closed)
      (at_first (IsCommaRun run) lead gap name body nested after (Some next_gap) none right here
      (0 + (here.gap + here.len)) laid.0 laid.1.0 (omega arith) run_is)))
  taken_with_comma k zero lead gap
      (entry name body nested after (Some next_gap) (entry name' body' nested' after' comma' rest')) [] valid hit count
      laid run_is =
      let rest = entry name' body' nested' after' comma' rest' in
      take_first path k gap name body nested after next_gap name' body' nested' after' comma' rest'
      (λ (o : Option (Changed Row)). IsTaken o (0 + here.gap) (here.len + run) (length lead)
      (joined (here.gap + here.len) (here.len + run) ps)) hit
      (first_taken (length lead) gap name body nested after next_gap rest here ps run laid
      (comma_after b after next_gap (entries_text rest ++ right) run valid.3 valid.4
      (entries_begin Strict b rest right valid.5 closed)
      (at_first (IsCommaRun run) lead gap name body nested after (Some next_gap) rest right here
      (0 + (here.gap + here.len)) laid.0 laid.1.0 (omega arith) run_is)))
  taken_with_comma k (suc n) lead gap (entry name body nested after comma none) (c ∷ cs) valid hit count laid run_is =
      absurd hit.1
  taken_with_comma k (suc n) lead gap
      (entry name body nested after (Some next_gap) (entry name' body' nested' after' comma' rest')) (c ∷ cs) valid hit
      count laid run_is =
      let rest = entry name' body' nested' after' comma' rest' in
      let lead' = text_of after ++ codes "," in
      let size : length (text_of after) + length (text_of (comma_leaves (Some next_gap)))
      ≡ length lead' + length (text_of next_gap) = omega (arith, length-append (text_of after) (codes ",")) in
      let laid' : AreLaid (length lead' + length (text_of next_gap)) rest (cs ++ (here ∷ ps)) =
      subst (λ (m : ℕ). AreLaid m rest (cs ++ (here ∷ ps))) size laid.1.1 in
      let run' : HasRun lead' next_gap rest cs =
      at_further (IsCommaRun run) lead gap name body nested after next_gap rest right c
      (extent (c ∷ cs) + (here.gap + here.len)) (extent cs + (here.gap + here.len)) laid.0 laid.1.0 (omega arith)
      run_is in
      take_further path k gap name body nested after next_gap name' body' nested' after' comma' rest'
      (λ (o : Option (Changed Row)). IsTaken o (extent (c ∷ cs) + here.gap) (here.len + run)
      (length lead) (c ∷ (cs ++ joined (here.gap + here.len) (here.len + run) ps)))
      hit.0 (comma_not_last (k + 1) n lead' next_gap rest cs valid.5 hit.1 (omega arith) laid' run')
      (taken_further (take_out path (k + 1) next_gap rest) (extent cs + here.gap) (here.len + run)
      (cs ++ joined (here.gap + here.len) (here.len + run) ps) gap (length lead) name body nested after c
      (extent (c ∷ cs) + here.gap)
      (taken_with_comma (k + 1) n lead' next_gap rest cs valid.5 hit.1 (omega arith) laid' run')
      laid.0 laid.1.0 (omega arith))

-- ---- at the end

last_taken : (n : ℕ) (gap : Gap) (name : Option Name) (body : Body) (nested : Entries) (after next_gap : Gap)
    (name' : Option Name) (body' : Body) (nested' : Entries) (after' : Gap) (last here : EntryPlace) (tail : List ℕ)
    → AreLaid (n + length (text_of gap))
    (entry name body nested after (Some next_gap) (entry name' body' nested' after' None none)) (last ∷ here ∷ [])
    → IsLastAfter after next_gap here.gap tail
    → IsTaken (Some (taken_last gap name body nested after next_gap name' body' nested' after'))
    (0 + (last.gap + last.len)) (here.gap + here.len) n (last ∷ [])
last_taken n gap name body nested after next_gap name' body' nested' after' last here tail laid between =
    let no : length (text_of after) ≡ 0 = ap (λ (g : Gap). length (text_of g)) between.before in
    let one : length (codes "," ++ (text_of next_gap ++ entry_prefix name' body' nested'))
    ≡ suc (length (text_of next_gap ++ entry_prefix name' body' nested')) =
    length-append (codes ",") (text_of next_gap ++ entry_prefix name' body' nested') ∙ omega arith in
    record {
      made = taken_last gap name body nested after next_gap name' body' nested' after';
      by = refl;
      start_is = omega (
        arith,
        laid.0,
        laid.1.0,
        length-append (text_of gap) (entry_prefix name body nested ++ text_of after),
        length-append (entry_prefix name body nested) (text_of after),
      );
      size_is = omega (
        arith,
        laid.1.1.1.0,
        between.len,
        length-append (text_of next_gap) (entry_prefix name' body' nested'),
      );
      new_is = between.preserved;
      laid = (laid.0, (laid.1.0, tt));
    }

-- of two entries
last_of_two : (b : Brackets) (path : List Part) (k : ℕ) (lead : List ℕ) (gap : Gap) (name : Option Name) (body : Body)
    (nested : Entries) (after next_gap : Gap) (name' : Option Name) (body' : Body) (nested' : Entries) (after' : Gap)
    (comma' : Option Gap) (last here : EntryPlace) (tail : List ℕ) → comma' ≡ None
    → same_path (step k name) path ≡ false → same_path (step (k + 1) name') path ≡ true
    → AreLaid (length lead + length (text_of gap))
    (entry name body nested after (Some next_gap) (entry name' body' nested' after' comma' none)) (last ∷ here ∷ [])
    → IsLastAfter after next_gap here.gap tail
    → IsTaken (take_out path k gap (entry name body nested after (Some next_gap)
    (entry name' body' nested' after' comma' none))) (0 + (last.gap + last.len)) (here.gap + here.len) (length lead)
    (last ∷ [])
last_of_two b path k lead gap name body nested after next_gap name' body' nested' after' (Some g) last here tail e other
    hit laid between = absurd cc
last_of_two b path k lead gap name body nested after next_gap name' body' nested' after' None last here tail e other hit
    laid between =
    take_last path k gap name body nested after next_gap name' body' nested' after' None none
    (λ (o : Option (Changed Row)). IsTaken o (0 + (last.gap + last.len)) (here.gap + here.len) (length lead)
    (last ∷ [])) other hit
    (last_taken (length lead) gap name body nested after next_gap name' body' nested' after' last here tail laid
    between)

-- the text of the last entry
last_text : (name : Option Name) (body : Body) (nested : Entries) (after : Gap) (comma : Option Gap) (right : List ℕ)
    → entries_text (entry name body nested after comma none) ++ right
    ≡ entry_prefix name body nested ++ (text_of after ++ (text_of (comma_leaves comma) ++ right))
last_text name body nested after comma right =
    ap (λ (t : List ℕ). t ++ right) (entry-text name body nested after comma none)
    ∙ simp (append_assoc) refl

module _ (b : Brackets) (path : List Part) (right : List ℕ) (last here : EntryPlace) where
  abbrev HasLast : List ℕ → Gap → Entries → List EntryPlace → Type 0
  HasLast lead gap es before =
      IsLastGap here.gap here.len (drop (extent before + (last.gap + last.len)) (round lead gap es right))

  pub taken_at_end : (k n : ℕ) (lead : List ℕ) (gap : Gap) (es : Entries) (before : List EntryPlace)
      → AreEntries Strict (place_of b) es → IsHit path k (suc n) es → length before ≡ n
      → AreLaid (length lead + length (text_of gap)) es (before ++ (last ∷ here ∷ [])) → HasLast lead gap es before
      → IsTaken (take_out path k gap es) (extent before + (last.gap + last.len)) (here.gap + here.len) (length lead)
      (before ++ (last ∷ []))
  taken_at_end k n lead gap none [] valid hit count laid is_last = absurd laid
  taken_at_end k n lead gap none (c ∷ cs) valid hit count laid is_last = absurd laid
  taken_at_end k (suc n) lead gap (entry name body nested after comma rest) [] valid hit count laid is_last =
      absurd (omega arith)
  taken_at_end k zero lead gap (entry name body nested after comma rest) (c ∷ cs) valid hit count laid is_last =
      absurd (omega arith)
  taken_at_end k n lead gap (entry name body nested after comma none) before valid hit count laid is_last =
      absurd hit.1
  taken_at_end k n lead gap
      (entry name body nested after None (entry name' body' nested' after' comma' rest')) before valid hit count laid
      is_last = absurd valid.4
  taken_at_end k zero lead gap
      (entry name body nested after (Some next_gap) (entry name' body' nested' after' comma'
      (entry name2 body2 nested2 after2 comma2 rest2))) [] valid hit count laid is_last = absurd laid.1.1.1.1
  taken_at_end k zero lead gap
      (entry name body nested after (Some next_gap) (entry name' body' nested' after' comma' none)) [] valid hit count
      laid is_last =
      let rest = entry name' body' nested' after' comma' none in
      let tail : List ℕ = text_of after' ++ (text_of (comma_leaves comma') ++ right) in
      let there : IsLastGap here.gap here.len (text_of after ++ (0x2C ∷ (text_of next_gap
      ++ (entries_text rest ++ right)))) =
      at_first (IsLastGap here.gap here.len) lead gap name body nested after (Some next_gap) rest right last
      (0 + (last.gap + last.len)) laid.0 laid.1.0 (omega arith) is_last in
      let between : IsLastAfter after next_gap here.gap tail =
      last_after b after next_gap (entry_prefix name' body' nested') tail here.gap here.len valid.3 valid.4
      (laid.1.1.0 ∙ omega arith) laid.1.1.1.0
      (subst (λ (t : List ℕ). IsLastGap here.gap here.len (text_of after ++ (0x2C ∷ (text_of next_gap ++ t))))
      (last_text name' body' nested' after' comma' right) there) in
      last_of_two b path k lead gap name body nested after next_gap name' body' nested' after' comma' last here tail
      (no_comma after' comma' right between.no_more) hit.0 hit.1 laid between
  taken_at_end k (suc n) lead gap
      (entry name body nested after (Some next_gap) (entry name' body' nested' after' comma' rest')) (c ∷ cs) valid hit
      count laid is_last =
      let rest = entry name' body' nested' after' comma' rest' in
      let lead' = text_of after ++ codes "," in
      let size : length (text_of after) + length (text_of (comma_leaves (Some next_gap)))
      ≡ length lead' + length (text_of next_gap) = omega (arith, length-append (text_of after) (codes ",")) in
      let laid' : AreLaid (length lead' + length (text_of next_gap)) rest (cs ++ (last ∷ here ∷ [])) =
      subst (λ (m : ℕ). AreLaid m rest (cs ++ (last ∷ here ∷ []))) size laid.1.1 in
      take_further path k gap name body nested after next_gap name' body' nested' after' comma' rest'
      (λ (o : Option (Changed Row)). IsTaken o (extent (c ∷ cs) + (last.gap + last.len)) (here.gap + here.len)
      (length lead) (c ∷ (cs ++ (last ∷ []))))
      hit.0 (not_last_among path (k + 1) _ rest cs last here [] laid')
      (taken_further (take_out path (k + 1) next_gap rest) (extent cs + (last.gap + last.len)) (here.gap + here.len)
      (cs ++ (last ∷ [])) gap (length lead) name body nested after c (extent (c ∷ cs) + (last.gap + last.len))
      (taken_at_end (k + 1) n lead' next_gap rest cs valid.5 hit.1 (omega arith) laid'
      (at_further (IsLastGap here.gap here.len) lead gap name body nested after next_gap rest right c
      (extent (c ∷ cs) + (last.gap + last.len)) (extent cs + (last.gap + last.len)) laid.0 laid.1.0 (omega arith)
      is_last))
      laid.0 laid.1.0 (omega arith))

-- ---- alone

only_when : (b : Bool) (n : ℕ) (gap : Gap) (name : Option Name) (body : Body) (nested : Entries) (after : Gap)
    (here : EntryPlace) → b ≡ true → here.gap ≡ n + length (text_of gap)
    → here.len ≡ length (entry_prefix name body nested)
    → IsTaken (elim b [ true ↦ Some (taken_only gap name body nested after) | false ↦ None ]) here.gap here.len n []
only_when false n gap name body nested after here e eg el = absurd cc
only_when true n gap name body nested after here e eg el = record {
  made = taken_only gap name body nested after;
  by = refl;
  start_is = sym eg;
  size_is = sym el;
  new_is = refl;
  laid = tt;
}

pub taken_alone : (path : List Part) (k : ℕ) (lead : List ℕ) (gap : Gap) (es : Entries) (right : List ℕ)
    (here : EntryPlace) → IsHit path k 0 es → AreLaid (length lead + length (text_of gap)) es (here ∷ [])
    → HasNoComma (drop (here.gap + here.len) (round lead gap es right))
    → IsTaken (take_out path k gap es) here.gap here.len (length lead) []
taken_alone path k lead gap none right here hit laid alone = absurd laid
taken_alone path k lead gap (entry name body nested after comma (entry n b s a c r)) right here hit laid alone =
    absurd laid.1.1
taken_alone path k lead gap (entry name body nested after (Some g) none) right here hit laid alone =
    absurd (let e : Some g ≡ None =
    no_comma after (Some g) (entries_text none ++ right)
    (at_first HasNoComma lead gap name body nested after (Some g) none right here (here.gap + here.len) laid.0 laid.1.0
    refl alone) in
    cc)
taken_alone path k lead gap (entry name body nested after None none) right here hit laid alone =
    only_when (same_path (step k name) path) (length lead) gap name body nested after here hit laid.0 laid.1.0
