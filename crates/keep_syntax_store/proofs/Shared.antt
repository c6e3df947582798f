-- What the crates above build on, in one place.
pub use Rattle.keep_syntax_store.proofs.BeforeLaws.{Before, BeginBefore, BeginFrom, ByValue, From, HeadIs, ValuesFrom}
pub use Rattle.keep_syntax_store.proofs.BeforeLaws.{all_append, all_back, all_prefix, counts_join, head_begins}
pub use Rattle.keep_syntax_store.proofs.BeforeLaws.{places_found}
pub use Rattle.keep_syntax_store.proofs.FlatLaws.{same_flat}
pub use Rattle.keep_syntax_store.proofs.JoinLaws.{IsEven, joined_assoc, joined_even, part_after, part_all, part_back}
pub use Rattle.keep_syntax_store.proofs.JoinLaws.{part_before, part_prefix, range_all, range_back, range_prefix}
pub use Rattle.keep_syntax_store.proofs.LiftedLaws.{Moves, count_is, moves_all, moves_keys, moves_statements}
pub use Rattle.keep_syntax_store.proofs.LiftedLaws.{moves_values, plus-origin, same_count}
pub use Rattle.keep_syntax_store.proofs.StayLaws.{map_same, stays, stays_flat}
pub use Rattle.keep_syntax_store.proofs.TestLaws.{if_false, if_true}
