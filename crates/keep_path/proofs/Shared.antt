-- What the crates above build on, in one place.
pub use Rattle.keep_path.proofs.PathLemmas.{path_decides}
pub use Rattle.keep_path.proofs.MovedLemmas.{beside_pushed, last_pushed, moved_above, moved_one, moved_pushed}
pub use Rattle.keep_path.proofs.MovedLemmas.{moved_root, moved_self, strip_append, strip_is}
pub use Rattle.keep_path.proofs.ByteLaws.{text_bytes}
pub use Rattle.keep_path.proofs.RenumberedLaws.{infos_back, key_back}
