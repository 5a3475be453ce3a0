-- Bounds of the numbers of a history, which keep sums within their types. No store that this program made passes one.
-- This project's own rule.
use Rattle.std.specs.Prelude.{ℕ, ◌+◌, ◌-◌, ◌*◌, ◌^◌, Bool, ◌&&◌, nat_le, nat_lt}
use Rattle.std.specs.List.{list_all}
use Rattle.wse_path.specs.Versions.{Numbers, known}
use Rattle.wse_element.specs.State.{StacksState}
use Rattle.wse_element.specs.Weight.{weight}

abbrev pub is_serial_bounded : StacksState → Bool
is_serial_bounded h = nat_le h.serial (2 ^ 30 - 1)

abbrev pub is_next_id_bounded : StacksState → Bool
is_next_id_bounded h = nat_le 1 h.next_id && nat_le h.next_id (1 + h.serial * 2 ^ 32)

abbrev pub is_weight_bounded : StacksState → Bool
is_weight_bounded h = nat_le (weight h.records) (2 ^ 29)

-- The bounds that concern the records alone.
abbrev pub is_bounded : StacksState → Bool
is_bounded h = is_serial_bounded h && is_next_id_bounded h && is_weight_bounded h

-- The bounds that concern the versions.
abbrev pub are_versions_bounded : ℕ → Numbers → Bool
are_versions_bounded serial versions = list_all (λ e. nat_le e.1 (2 * serial + 1)) versions

abbrev pub is_known_bounded : Numbers → Bool
is_known_bounded versions = nat_le (known versions) (2 ^ 29)

-- No path has the version 0: one that has none has no entry.
abbrev pub are_some : Numbers → Bool
are_some versions = list_all (λ e. nat_lt 0 e.1) versions
