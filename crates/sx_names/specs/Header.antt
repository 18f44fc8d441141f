-- Texts that a header can carry.
use Rattle.std.specs.Prelude.{ℕ, ◌-◌, ◌==◌, ◌&&◌, ◌||◌, Bool, not, nat_le, List, length, slice_index}
use Rattle.std.specs.List.{list_all}
use Rattle.std.specs.Str.{is_utf8}
use Rattle.sx_names.specs.declared.header.TheConstants.{MAX_CONTENT_BYTES}

-- no control character but the tab
abbrev pub is_header_byte : ℕ → Bool
is_header_byte b = (nat_le 32 b || b == 9) && not (b == 127)

-- a space or a tab
abbrev pub is_blank : ℕ → Bool
is_blank b = b == 32 || b == 9

-- a text that a header can carry: UTF-8 without control characters but tabs, and without a blank at an end
unfoldable pub is_header_text : List ℕ → Bool
is_header_text bytes =
    is_utf8 bytes && list_all is_header_byte bytes
    && not (is_blank (slice_index bytes 0)) && not (is_blank (slice_index bytes (length bytes - 1)))

-- such a text of at most 1,024 bytes
abbrev pub is_content_text : List ℕ → Bool
is_content_text bytes = nat_le (length bytes) MAX_CONTENT_BYTES && is_header_text bytes
