-- Bytes that are written one piece after another.
--
-- Theorems: `third_written`: two pieces are written, and then a third one or a prefix of it, and so is the whole;
-- `second_stops`: where writing stops in the second piece, it stops so in the whole; `stops_up`: a fault of writing is
-- passed up as it is.
use Rattle.std.proofs.Common.{◌≡◌, ◌+◌, ℕ, Bool, List, ◌++◌, take, length, length-append, arith, subst, sym, Option}
use Rattle.std.proofs.Math.Seq.{take-append-add}
use Rattle.std.proofs.lemmas.List.{take-append-le}
use Rattle.std.specs.Prelude.{Result, Ok, Err, IsErrAnd}
use Rattle.std.specs.Io.KnownBytes.{Appends}
use Rattle.keep_commands.specs.Written.{StopsWriting, WritesAfter}
use Rattle.keep_commands.specs.declared.fault.RunFault.{RunFault}
use Rattle.keep_commands.specs.declared.fault.RunFault.TheVariants as run
use Rattle.keep_commands.specs.declared.run.Done.{Done}
use Rattle.keep_commands.proofs.Appends.{appends_then}

-- where the first piece stops, all stops
pub stops_first : (before : ℕ) (old new : Option (List ℕ)) (a b : List ℕ) (f : RunFault) (failed : Bool)
    → StopsWriting before old new a f failed → StopsWriting before old new (a ++ b) f failed
stops_first before old new a b (run.Write written) failed (is_failed, (n, is, less, has)) = (
  is_failed,
  (
    n,
    is,
    omega (arith, less, length-append a b),
    subst (λ (t : List ℕ). Appends old new t) (sym (take-append-le n a b (omega (arith, less)))) has,
  ),
)
stops_first before old new a b (run.Document f) failed h = absurd h
stops_first before old new a b (run.Edit n f) failed h = absurd h
stops_first before old new a b run.TooLong failed h = absurd h
stops_first before old new a b run.Read failed h = absurd h
stops_first before old new a b run.Memory failed h = absurd h

-- where the second stops, so does all
stops_second : (before : ℕ) (old mid new : Option (List ℕ)) (a b : List ℕ) (f : RunFault) (failed : Bool)
    → Appends old mid a → StopsWriting (before + length a) mid new b f failed
    → StopsWriting before old new (a ++ b) f failed
stops_second before old mid new a b (run.Write written) failed first (is_failed, (n, is, less, has)) = (
  is_failed,
  (
    length a + n,
    omega (arith, is),
    omega (arith, less, length-append a b),
    subst (λ (t : List ℕ). Appends old new t) (sym (take-append-add a b n))
        (appends_then old mid new a (take n b) first has),
  ),
)
stops_second before old mid new a b (run.Document f) failed first h = absurd h
stops_second before old mid new a b (run.Edit n f) failed first h = absurd h
stops_second before old mid new a b run.TooLong failed first h = absurd h
stops_second before old mid new a b run.Read failed first h = absurd h
stops_second before old mid new a b run.Memory failed first h = absurd h

-- a piece that is written, and then another
pub writes_then : (before at : ℕ) (old mid new : Option (List ℕ)) (a b : List ℕ) (r : Result Done RunFault)
    (failed : Bool) → at ≡ before + length a → Appends old mid a → WritesAfter at mid new b r failed
    → WritesAfter before old new (a ++ b) r failed
writes_then before at old mid new a b (Ok done) failed is first (not_failed, count, has) =
    (not_failed, omega (arith, is, count, length-append a b), appends_then old mid new a b first has)
writes_then before at old mid new a b (Err f) failed is first h =
    stops_second before old mid new a b f failed first (subst (λ (n : ℕ). StopsWriting n mid new b f failed) is h)

-- what `?` passes up
pub stops_up : (before : ℕ) (old new : Option (List ℕ)) (bytes : List ℕ) (r : Result Done RunFault) (f : RunFault)
    (failed : Bool) → IsErrAnd r (λ e. e ≡ f) → StopsWriting before old new bytes f failed
    → WritesAfter before old new bytes r failed
stops_up before old new bytes (Ok done) f failed passed h = absurd passed
stops_up before old new bytes (Err e) f failed passed h =
    subst (λ (g : RunFault). StopsWriting before old new bytes g failed) (sym passed) h

-- a piece that is written, one at which it stops, and a rest
pub second_stops : (at : ℕ) (old mid new : Option (List ℕ)) (a b rest text : List ℕ) (f : RunFault) (failed : Bool)
    → at ≡ 0 + length a → Appends old mid a → StopsWriting at mid new b f failed → a ++ (b ++ rest) ≡ text
    → StopsWriting 0 old new text f failed
second_stops at old mid new a b rest text f failed is first h whole =
    subst (λ (t : List ℕ). StopsWriting 0 old new t f failed) whole
    (stops_second 0 old mid new a (b ++ rest) f failed first
    (stops_first (0 + length a) mid new b rest f failed (subst (λ (n : ℕ). StopsWriting n mid new b f failed) is h)))

-- two pieces that are written, and a third
pub third_written : (at next : ℕ) (old mid later new : Option (List ℕ)) (a b c text : List ℕ) (r : Result Done RunFault)
    (failed : Bool) → at ≡ 0 + length a → Appends old mid a → next ≡ at + length b → Appends mid later b
    → WritesAfter next later new c r failed → a ++ (b ++ c) ≡ text → WritesAfter 0 old new text r failed
third_written at next old mid later new a b c text r failed is first then second h whole =
    subst (λ (t : List ℕ). WritesAfter 0 old new t r failed) whole
    (writes_then 0 at old mid new a (b ++ c) r failed is first
    (writes_then at next mid later new b c r failed then second h))
