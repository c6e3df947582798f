-- What the code stores of an entry, and of entries one after the other.
--
-- `SoFar` is the invariant of the loop over the entries of brackets: those before this place are read and stored, and
-- reading the rest completes the reading of all. It holds before the first entry (`so_far_none`), and after one more
-- that has a comma (`so_far_more`). The loop ends at the bracket (`so_far_done`), after an entry without a comma
-- (`so_far_last`), or at a fault (`so_far_fails`). One entry is read in three parts, its name, its value and what
-- follows it; what is stored of the three is what is stored of the entry (`entry_grows`).
--
-- Theorems: `item_is`: one entry is stored; `so_far_done` and `so_far_last`: all entries are stored where the loop
-- ends.
use Rattle.std.proofs.Common.{◌≡◌, ℕ, ◌+◌, ◌-◌, ◌<◌, true, false, ◌==◌, List, [], ◌∷◌, ◌++◌, length, get_or, drop}
use Rattle.std.proofs.Common.{Option, Some, None, Result, Ok, Err, refl, sym, ap, ◌∙◌, arith, append_assoc}
use Rattle.std.proofs.Common.{IsCharBoundary}
use Rattle.std.specs.Option.{is_some}
use Rattle.std.proofs.lemmas.List.{append-nil}
use Rattle.keep_types.specs.declared.leaf.Profile.{Profile}
use Rattle.keep_syntax.specs.declared.fault.ReadFault.{ReadFault}
use Rattle.keep_types.specs.declared.syntax.Start.{Start}
use Rattle.keep_syntax.specs.declared.info.Brackets.{Brackets}
use Rattle.keep_types.specs.declared.syntax.KeyPart.{KeyPart}
use Rattle.keep_types.specs.declared.syntax.ValueInfo.{ValueInfo}
use Rattle.keep_syntax.specs.Tree.{Written, Gap, Name, Entries, none, Value, named_leaves, value_leaves, comma_leaves}
use Rattle.keep_syntax.specs.Numbered.{width, entries_parts, entries_values, info, nested_of, nested_start, value_start}
use Rattle.keep_syntax.specs.Numbered.{comma_start, comma_place, name_count, named_parts, entries_end}
use Rattle.keep_syntax.specs.Reading.{Iteration, continues, ready, join, Item, entry_of, iteration_of, value_of}
use Rattle.keep_syntax.specs.Reading.{close_byte, gap_in, named_in, after_by, item_by, entry_by, entries_by}
use Rattle.keep_syntax_store.specs.Flat.{Flat, with_comma}
use Rattle.keep_syntax.specs.Growth.{Taken, Grows, Fails, NamedRead, ValueRead, AfterRead, AfterStored, named_taken}
use Rattle.keep_syntax.specs.Growth.{value_taken, entries_taken, item_taken, EntriesAre, ItemIs, ItemRead}
use Rattle.keep_syntax.proofs.LoopLaws.{done, loop_on, loop_ready, loop_err}
use Rattle.keep_syntax.proofs.ValueLaws.{value_takes, entry_shortens}
use Rattle.keep_syntax.proofs.GrowthLaws.{same_taken, grows_nothing, grows_then, grows_as, grows_changed, grown_values}
use Rattle.keep_syntax.proofs.GrowthLaws.{grown_keys}
use Rattle.keep_syntax.proofs.NumberLaws.{same_start, leaves-join, entries_end-at, entries_end-join, values-join}
use Rattle.keep_syntax.proofs.NumberLaws.{parts-join, value_end-width, length-values, length-named, length-parts}
use Rattle.keep_syntax.proofs.NumberLaws.{entries_end-values, entries_end-parts}
use Rattle.keep_syntax.proofs.GapCodeLaws.{first-drop, fails_through}

-- ---- an entry

pub item_fails_name : (profile : Profile) (b : Brackets) (depth_left : ℕ) (rest text : List ℕ) (e : ReadFault)
    → Fails text e (named_in profile b rest) → Fails text e (item_by profile b (value_of profile depth_left) rest)
unfolding item_by
item_fails_name profile b depth_left rest text e k =
    fails_through text e (named_in profile b rest) (item_by profile b (value_of profile depth_left) rest)
    (λ f h. rw h refl) k

pub item_fails_value : (profile : Profile) (b : Brackets) (depth_left : ℕ) (text : List ℕ) (at begin : ℕ)
    (old f1 : Flat) (e : ReadFault) → NamedRead profile b text at old f1 (Ok begin)
    → Fails text e (value_of profile depth_left (drop begin text))
    → Fails text e (item_by profile b (value_of profile depth_left) (drop at text))
unfolding item_by
item_fails_value profile b depth_left text at begin old f1 e n k =
    fails_through text e (value_of profile depth_left (drop begin text))
    (item_by profile b (value_of profile depth_left) (drop at text)) (λ f h. rw (n.is_read, h) refl) k

-- what is after the name and the value
item_reads : (profile : Profile) (b : Brackets) (depth_left : ℕ) (text : List ℕ) (p : Start) (begin keys end : ℕ)
    (old f1 f2 : Flat) → (n : NamedRead profile b text p.at old f1 (Ok begin))
    → (v : ValueRead profile depth_left text begin keys p f1 f2 (Ok end))
    → item_by profile b (value_of profile depth_left) (drop p.at text)
    ≡ after_by profile b n.part v.part (gap_in profile b (drop end text))
unfolding item_by
item_reads profile b depth_left text p begin keys end old f1 f2 n v = rw (n.is_read, v.is_read) refl

-- what an entry adds, by its parts
entry_taken : (p : Start) (begin keys : ℕ) (i : Item) (end : ℕ) (t : Taken) → begin ≡ p.at + width (named_leaves i.name)
    → keys ≡ name_count i.name → end ≡ begin + width (value_leaves i.value)
    → t.leaves ≡ (named_leaves i.name ++ value_leaves i.value) ++ (i.after ++ comma_leaves i.comma) → t.statements ≡ []
    → t.keys ≡ named_parts p.at i.name ++ entries_parts (nested_start begin i.value.body) i.value.nested
    → t.values ≡ info p begin keys i.value.body i.value.nested (comma_place (end + width i.after) i.comma)
    ∷ entries_values (nested_of p begin keys i.value.body) i.value.nested → t ≡ item_taken p i
entry_taken p begin keys i end t e1 e2 e3 ls ss ks vs =
    let v = i.value in
    let start = value_start p.at i.name in
    let ends : end + width i.after ≡ comma_start p.at i.name v.body v.nested i.after =
    omega (arith, value_end-width start v) in
    same_taken t (item_taken p i)
    (ls ∙ simp (append_assoc, append-nil)) ss
    (ks ∙ ap (λ (n : ℕ). named_parts p.at i.name ++ entries_parts (nested_start n v.body) v.nested) e1
    ∙ ap (λ (x : List KeyPart). named_parts p.at i.name ++ x)
    (sym (append-nil (entries_parts (nested_start start v.body) v.nested))))
    (vs ∙ ap (λ (n : ℕ).
    info p begin keys v.body v.nested (comma_place n i.comma) ∷ entries_values (nested_of p begin keys v.body) v.nested)
    ends
    ∙ ap (λ (n : ℕ).
    info p n keys v.body v.nested (comma_place (comma_start p.at i.name v.body v.nested i.after) i.comma)
    ∷ entries_values (nested_of p n keys v.body) v.nested) e1
    ∙ ap (λ (k : ℕ).
    info p start k v.body v.nested (comma_place (comma_start p.at i.name v.body v.nested i.after) i.comma)
    ∷ entries_values (nested_of p start k v.body) v.nested) e2
    ∙ ap (λ (x : List ValueInfo).
    info p start (name_count i.name) v.body v.nested
    (comma_place (comma_start p.at i.name v.body v.nested i.after) i.comma) ∷ x)
    (sym (append-nil (entries_values (nested_of p start (name_count i.name) v.body) v.nested))))

-- the parts of an entry, one after the other
entry_grows : (text : List ℕ) (p : Start) (begin keys end next : ℕ) (name : Option Name) (v : Value) (after : Gap)
    (comma : Option Gap) (old f1 f2 new : Flat) → keys ≡ name_count name → p.values ≡ length old.values
    → Grows text old f1 p.at begin (named_taken p.at name) → Grows text f1 f2 begin end (value_taken p begin keys v)
    → AfterStored text end p.values f2 new next after comma
    → Grows text old new p.at next (item_taken p (record { name = name; value = v; after = after; comma = comma }))
entry_grows text p begin keys end next name v after None old f1 f2 new k n g1 g2 a =
    let i : Item = record { name = name; value = v; after = after; comma = None } in
    grows_as (item_taken p i)
    (entry_taken p begin keys i end _ g1.place k g2.place
    (ap (λ (x : List Written). (named_leaves name ++ value_leaves v) ++ x) (sym (append-nil after))) refl (append-nil _)
    (ap (λ (x : List ValueInfo). info p begin keys v.body v.nested None ∷ x)
    (append-nil (entries_values (nested_of p begin keys v.body) v.nested))))
    (grows_then (grows_then g1 g2) a)
entry_grows text p begin keys end next name v after (Some next_gap) old f1 f2 new k n g1 g2 a =
    let i : Item = record { name = name; value = v; after = after; comma = Some next_gap } in
    let inner = entries_values (nested_of p begin keys v.body) v.nested in
    let head = info p begin keys v.body v.nested None in
    let first' = grows_then (grows_then g1 g2) a.2 in
    let stated = grows_changed (with_comma (end + width after)) p.values _ head (inner ++ []) refl n first' a.3 in
    grows_as (item_taken p i)
    (entry_taken p begin keys i end _ g1.place k g2.place (simp (append_assoc, append-nil)) refl
    (append-nil _ ∙ append-nil _)
    (ap (λ (x : List ValueInfo). with_comma (end + width after) head ∷ x) (append-nil _ ∙ append-nil inner)))
    (grows_then stated a.4)

-- how many key parts the name has
pub name_keys : (profile : Profile) (b : Brackets) (text : List ℕ) (p : Start) (begin : ℕ) (old f1 : Flat)
    → p.parts ≡ length old.keys → (n : NamedRead profile b text p.at old f1 (Ok begin))
    → length f1.keys ≡ p.parts + name_count n.part
name_keys profile b text p begin old f1 e n =
    omega (arith, grown_keys (named_taken p.at n.part) n.grows, length-named p.at n.part)

pub name_values : (profile : Profile) (b : Brackets) (text : List ℕ) (p : Start) (begin : ℕ) (old f1 : Flat)
    → p.values ≡ length old.values → NamedRead profile b text p.at old f1 (Ok begin) → p.values ≡ length f1.values
name_values profile b text p begin old f1 e n = omega (arith, grown_values (named_taken p.at n.part) n.grows)

-- the value is there to get its comma
pub item_number : (profile : Profile) (depth_left : ℕ) (text : List ℕ) (p : Start) (begin keys end : ℕ) (f1 f2 : Flat)
    → p.values ≡ length f1.values → ValueRead profile depth_left text begin keys p f1 f2 (Ok end)
    → p.values < length f2.values
item_number profile depth_left text p begin keys end f1 f2 e v =
    omega (arith, grown_values (value_taken p begin keys v.part) v.grows)

pub item_is : (profile : Profile) (b : Brackets) (depth_left : ℕ) (text : List ℕ) (p : Start) (begin keys end : ℕ)
    (old f1 f2 new : Flat) (r : Result (ℕ × Option ℕ) ReadFault) → p.values ≡ length old.values
    → p.parts ≡ length old.keys → keys ≡ length f1.keys - p.parts
    → NamedRead profile b text p.at old f1 (Ok begin) → ValueRead profile depth_left text begin keys p f1 f2 (Ok end)
    → AfterRead profile b text end p.values f2 new r → ItemRead b profile depth_left text p old new r
item_is profile b depth_left text p begin keys end old f1 f2 new (Err e) n1 n2 k n v a =
    fails_through text e (after_by profile b n.part v.part (gap_in profile b (drop end text)))
    (item_by profile b (value_of profile depth_left) (drop p.at text))
    (λ f h. item_reads profile b depth_left text p begin keys end old f1 f2 n v ∙ h) (a n.part v.part)
item_is profile b depth_left text p begin keys end old f1 f2 new (Ok r) n1 n2 k n v a =
    let i : Item = record { name = n.part; value = v.part; after = a.after; comma = a.comma_gap } in
    let own : keys ≡ name_count n.part = omega (arith, name_keys profile b text p begin old f1 n2 n) in
    let ends : end + width a.after ≡ comma_start p.at n.part v.part.body v.part.nested a.after =
    omega (arith, value_end-width (value_start p.at n.part) v.part, n.grows.place, v.grows.place) in
    record {
      read = record {
        part = i;
        bound = a.bound;
        forward = omega (arith, n.forward, v.forward, a.forward);
        is_read = item_reads profile b depth_left text p begin keys end old f1 f2 n v ∙ a.is_read n.part v.part;
        grows = entry_grows text p begin keys end r.0 n.part v.part a.after a.comma_gap old f1 f2 new own n1 n.grows
            v.grows a.stored;
      };
      comma_is = a.comma_is ∙ ap (λ (x : ℕ). comma_place x a.comma_gap) ends;
      closed = a.closed;
    }

-- ---- entries

pub record SoFar (b : Brackets) (profile : Profile) (depth_left : ℕ) (text : List ℕ) (p : Start) (old now : Flat)
    (here : Start) : Type 0 where
  pub prefix : Entries
  pub bound : IsCharBoundary text here.at
  pub read : entries_by profile b (value_of profile depth_left) none (drop p.at text)
      ≡ entries_by profile b (value_of profile depth_left) prefix (drop here.at text)
  pub grows : Grows text old now p.at here.at (entries_taken p prefix)
  pub then : here ≡ entries_end p prefix
  pub depth : here.depth ≡ p.depth
  pub values : here.values ≡ length now.values
  pub parts : here.parts ≡ length now.keys

pub so_far_none : (b : Brackets) (profile : Profile) (depth_left : ℕ) (text : List ℕ) (p : Start) (old : Flat)
    → IsCharBoundary text p.at → p.values ≡ length old.values → p.parts ≡ length old.keys
    → SoFar b profile depth_left text p old old p
so_far_none b profile depth_left text p old bound n1 n2 =
    record {
      prefix = none;
      bound = bound;
      read = refl;
      grows = grows_nothing text old p.at;
      then = refl;
      depth = refl;
      values = n1;
      parts = n2;
    }

-- entries after entries
join_grows : (text : List ℕ) (p here : Start) (end : ℕ) (old now new : Flat) (prefix it : Entries)
    → here ≡ entries_end p prefix → Grows text old now p.at here.at (entries_taken p prefix)
    → Grows text now new here.at end (entries_taken here it)
    → Grows text old new p.at end (entries_taken p (join prefix it))
join_grows text p here end old now new prefix it e g h =
    grows_as (entries_taken p (join prefix it))
    (same_taken _ (entries_taken p (join prefix it)) (sym (leaves-join prefix it)) refl
    (ap (λ (q : Start). entries_parts p.at prefix ++ entries_parts q.at it) e ∙ sym (parts-join p prefix it))
    (ap (λ (q : Start). entries_values p prefix ++ entries_values q it) e ∙ sym (values-join p prefix it)))
    (grows_then g h)

-- whether a comma is there
pub comma_some : (comma : Option ℕ) → is_some comma ≡ true → comma ≡ None → ⊥
comma_some None e h = absurd cc
comma_some (Some n) e h = absurd cc

pub comma_none : (comma : Option ℕ) → is_some comma ≡ false → comma ≡ None
comma_none None e = refl
comma_none (Some n) e = absurd cc

iteration_ready : (prefix : Entries) (i : Item) (n : ℕ) (comma : Option ℕ) (c : Option Gap) → comma ≡ comma_place n c
    → comma ≡ None → iteration_of prefix i c ≡ ready (join prefix (entry_of i none))
iteration_ready prefix i n comma None e h = refl
iteration_ready prefix i n comma (Some g) e h = absurd cc

iteration_continues : (prefix : Entries) (i : Item) (n : ℕ) (comma : Option ℕ) (c : Option Gap)
    → comma ≡ comma_place n c → (comma ≡ None → ⊥) → iteration_of prefix i c ≡ continues (join prefix (entry_of i none))
iteration_continues prefix i n comma None e h = absurd (h e)
iteration_continues prefix i n comma (Some g) e h = refl

-- an iteration at an entry
iteration_reads : (b : Brackets) (profile : Profile) (depth_left : ℕ) (text : List ℕ) (here : Start) (prefix : Entries)
    (now new : Flat) (end : ℕ) (comma : Option ℕ) → (i : ItemIs b profile depth_left text here now new end comma)
    → (get_or text here.at 0 == close_byte b) ≡ false
    → entry_by profile b (value_of profile depth_left) prefix (drop here.at text)
    ≡ Ok (iteration_of prefix i.read.part i.read.part.comma, drop end text)
unfolding entry_by
iteration_reads b profile depth_left text here prefix now new end comma i open' =
    rw (first-drop text here.at, open', i.read.is_read) refl

pub so_far_more : (b : Brackets) (profile : Profile) (depth_left : ℕ) (text : List ℕ) (p : Start) (old now new : Flat)
    (here : Start) (end nv np : ℕ) (comma : Option ℕ) → SoFar b profile depth_left text p old now here
    → ItemIs b profile depth_left text here now new end comma
    → (get_or text here.at 0 == close_byte b) ≡ false → (comma ≡ None → ⊥) → nv ≡ length new.values
    → np ≡ length new.keys
    → SoFar b profile depth_left text p old new
    (record { at = end; values = nv; parts = np; owner = here.owner; depth = here.depth; comma = comma })
so_far_more b profile depth_left text p old now new here end nv np comma s i open' some e1 e2 =
    let it = i.read.part in
    let es = entry_of it none in
    let next : Start =
    record { at = end; values = nv; parts = np; owner = here.owner; depth = here.depth; comma = comma } in
    let iteration : entry_by profile b (value_of profile depth_left) s.prefix (drop here.at text)
    ≡ Ok (continues (join s.prefix es), drop end text) =
    iteration_reads b profile depth_left text here s.prefix now new end comma i open'
    ∙ ap (λ (t : Iteration Entries Entries). done (t, drop end text))
    (iteration_continues s.prefix it _ comma it.comma i.comma_is some) in
    let here_next : next ≡ entries_end here es =
    same_start next (entries_end here es) (omega (arith, i.read.grows.place, entries_end-at here es))
    (omega (
      arith,
      s.values,
      grown_values (entries_taken here es) i.read.grows,
      length-values here es,
      entries_end-values here es,
    ))
    (omega (
      arith,
      s.parts,
      grown_keys (entries_taken here es) i.read.grows,
      length-parts here.at es,
      entries_end-parts here es,
    )) refl refl i.comma_is in
    record {
      prefix = join s.prefix es;
      bound = i.read.bound;
      read = s.read
          ∙ loop_on (entry_by profile b (value_of profile depth_left))
          (entry_shortens profile b depth_left (value_of profile depth_left) (value_takes profile depth_left)) s.prefix
          (drop here.at text) (join s.prefix es) (drop end text) iteration;
      grows = join_grows text p here end old now new s.prefix es s.then s.grows i.read.grows;
      then = here_next ∙ ap (λ (q : Start). entries_end q es) s.then ∙ sym (entries_end-join p s.prefix es);
      depth = s.depth;
      values = e1;
      parts = e2;
    }

pub so_far_last : (b : Brackets) (profile : Profile) (depth_left : ℕ) (text : List ℕ) (p : Start) (old now new : Flat)
    (here : Start) (end : ℕ) (comma : Option ℕ) → SoFar b profile depth_left text p old now here
    → ItemIs b profile depth_left text here now new end comma
    → (get_or text here.at 0 == close_byte b) ≡ false → comma ≡ None
    → EntriesAre b profile depth_left text p old new end
so_far_last b profile depth_left text p old now new here end comma s i open' none' =
    let it = i.read.part in
    let es = entry_of it none in
    let iteration : entry_by profile b (value_of profile depth_left) s.prefix (drop here.at text)
    ≡ Ok (ready (join s.prefix es), drop end text) =
    iteration_reads b profile depth_left text here s.prefix now new end comma i open'
    ∙ ap (λ (t : Iteration Entries Entries). done (t, drop end text))
    (iteration_ready s.prefix it _ comma it.comma i.comma_is none') in
    record {
      read = record {
        part = join s.prefix es;
        bound = i.read.bound;
        forward = omega (arith, s.grows.place, i.read.forward);
        is_read =
            s.read ∙ loop_ready (entry_by profile b (value_of profile depth_left)) s.prefix (drop here.at text)
            (join s.prefix es) (drop end text) iteration;
        grows = join_grows text p here end old now new s.prefix es s.then s.grows i.read.grows;
      };
      closed = i.closed none';
    }

iteration_closes : (b : Brackets) (profile : Profile) (depth_left : ℕ) (text : List ℕ) (here : Start) (prefix : Entries)
    → (get_or text here.at 0 == close_byte b) ≡ true
    → entry_by profile b (value_of profile depth_left) prefix (drop here.at text) ≡ Ok (ready prefix, drop here.at text)
unfolding entry_by
iteration_closes b profile depth_left text here prefix closed = rw (first-drop text here.at, closed) refl

pub so_far_done : (b : Brackets) (profile : Profile) (depth_left : ℕ) (text : List ℕ) (p : Start) (old now : Flat)
    (here : Start) → SoFar b profile depth_left text p old now here → get_or text here.at 0 ≡ close_byte b
    → (get_or text here.at 0 == close_byte b) ≡ true → EntriesAre b profile depth_left text p old now here.at
so_far_done b profile depth_left text p old now here s close closed =
    record {
      read = record {
        part = s.prefix;
        bound = s.bound;
        forward = omega (arith, s.grows.place);
        is_read =
            s.read ∙ loop_ready (entry_by profile b (value_of profile depth_left)) s.prefix (drop here.at text) s.prefix
            (drop here.at text) (iteration_closes b profile depth_left text here s.prefix closed);
        grows = s.grows;
      };
      closed = close;
    }

pub so_far_fails : (b : Brackets) (profile : Profile) (depth_left : ℕ) (text : List ℕ) (p : Start) (old now : Flat)
    (here : Start) (e : ReadFault) → SoFar b profile depth_left text p old now here
    → (get_or text here.at 0 == close_byte b) ≡ false
    → Fails text e (item_by profile b (value_of profile depth_left) (drop here.at text))
    → Fails text e (entries_by profile b (value_of profile depth_left) none (drop p.at text))
unfolding entry_by
so_far_fails b profile depth_left text p old now here e s open' k =
    fails_through text e (item_by profile b (value_of profile depth_left) (drop here.at text))
    (entries_by profile b (value_of profile depth_left) none (drop p.at text))
    (λ f h. s.read
    ∙ loop_err (entry_by profile b (value_of profile depth_left)) s.prefix (drop here.at text) f
    (rw (first-drop text here.at, open', h) refl)) k
