-- The rules of names in the order in which they are tried, and the first that is broken.
use Rattle.std.specs.Prelude.{ℕ, zero, suc, ◌+◌, ◌-◌, ◌==◌, Bool, not, nat_lt, if◌then◌else◌, List, [], ◌∷◌, length}
use Rattle.std.specs.Prelude.{Option, Some, None, Result, Ok, Err, chars, encode_utf8_all, take, slice_index, min}
use Rattle.std.specs.Option.{option_or, option_map}
use Rattle.std.specs.List.{find, position, range_with_len}
use Rattle.std.specs.Str.{is_utf8}
use Rattle.sx_names.specs.Names.{is_name_char, is_dots, has_bad_tail, is_share_byte, is_lower_or_digit, is_hyphens_at}
use Rattle.sx_names.specs.Names.{path_length}
use Rattle.sx_names.specs.declared.part.TheConstants.{MAX_PART_CHARS}
use Rattle.sx_names.specs.declared.path.TheConstants.{MAX_PARTS, MAX_PATH_CHARS}
use Rattle.sx_names.specs.declared.share.TheConstants.{MIN_SHARE_BYTES, MAX_SHARE_BYTES}
use Rattle.sx_names.specs.declared.fault.NameFault.{NameFault}
use Rattle.sx_names.specs.declared.fault.NameRule.{NameRule}
use Rattle.sx_names.specs.declared.fault.NameRule.TheVariants as rule
use Rattle.sx_names.specs.declared.fault.Unnamed.{Unnamed}
use Rattle.sx_names.specs.declared.fault.Unnamed.TheVariants.{Fault, NoMemory}

-- a rule, and the place where the name breaks it, if it does
pub record Rule : Type 0 where
  pub rule : NameRule
  pub broken_at : Option ℕ

-- the fault at this place, or else a later one
abbrev pub broken_or : NameRule → ℕ → Option ℕ → Option NameFault → Option NameFault
broken_or rule part None later = later
broken_or rule part (Some at) later = Some (record { rule = rule; part = part; at = at })

-- the first of these rules that is broken, as a fault of this part
abbrev pub first_broken : ℕ → List Rule → Option NameFault
first_broken part [] = None
first_broken part (r ∷ rules) = broken_or r.rule part r.broken_at (first_broken part rules)

-- this place, where the condition holds
abbrev pub at_if : Bool → ℕ → Option ℕ
at_if broken at = if broken then Some at else None

-- the number of bytes of the longest front of at most n bytes that is UTF-8
abbrev pub utf8_front : List ℕ → ℕ → ℕ
utf8_front bytes zero = 0
utf8_front bytes (suc n) = if is_utf8 (take (suc n) bytes) then suc n else utf8_front bytes n

-- the place of a character, counted from 0: the number of bytes before it
abbrev pub char_place : List ℕ → ℕ → ℕ
char_place text k = length (encode_utf8_all (take k (chars text)))

-- a character that no name has
abbrev pub is_other_char : ℕ → Bool
is_other_char c = not (is_name_char c)

-- a byte that no name of a share has
abbrev pub is_other_byte : ℕ → Bool
is_other_byte b = not (is_share_byte b)

-- the place of the first character past the limit, if there is one
abbrev pub char_past_limit : List ℕ → Option ℕ
char_past_limit text = at_if (nat_lt MAX_PART_CHARS (length (chars text))) (char_place text MAX_PART_CHARS)

-- the last byte
abbrev pub last_byte : List ℕ → ℕ
last_byte bytes = slice_index bytes (length bytes - 1)

-- the first place at which two hyphens stand
abbrev pub first_hyphens : List ℕ → Option ℕ
first_hyphens bytes = find (is_hyphens_at bytes) (range_with_len 0 (length bytes))

-- what keeps bytes from being the name of a file or directory
abbrev pub part_rules : List ℕ → List Rule
part_rules bytes =
    record { rule = rule.Utf8; broken_at = at_if (not (is_utf8 bytes)) (utf8_front bytes (length bytes)) }
    ∷ record { rule = rule.Empty; broken_at = at_if (length bytes == 0) 0 }
    ∷ record { rule = rule.Char; broken_at = option_map (char_place bytes) (position is_other_char (chars bytes)) }
    ∷ record { rule = rule.Dot; broken_at = at_if (is_dots bytes) 0 }
    ∷ record { rule = rule.Tail; broken_at = at_if (has_bad_tail bytes) (length bytes - 1) }
    ∷ record { rule = rule.Long; broken_at = char_past_limit bytes }
    ∷ []

-- what keeps bytes from being the name of a share
abbrev pub share_rules : List ℕ → List Rule
share_rules bytes =
    record { rule = rule.Short; broken_at = at_if (nat_lt (length bytes) MIN_SHARE_BYTES) 0 }
    ∷ record { rule = rule.Long; broken_at = at_if (nat_lt MAX_SHARE_BYTES (length bytes)) MAX_SHARE_BYTES }
    ∷ record { rule = rule.Char; broken_at = position is_other_byte bytes }
    ∷ record { rule = rule.Edge; broken_at = at_if (not (is_lower_or_digit (slice_index bytes 0))) 0 }
    ∷ record { rule = rule.Edge; broken_at = at_if (not (is_lower_or_digit (last_byte bytes))) (length bytes - 1) }
    ∷ record { rule = rule.Hyphens; broken_at = option_map (λ k. k + 1) (first_hyphens bytes) }
    ∷ []

-- what keeps parts that are names from being a path
abbrev pub whole_rules : List (List ℕ) → List Rule
whole_rules parts =
    record { rule = rule.Deep; broken_at = at_if (nat_lt MAX_PARTS (length parts)) 0 }
    ∷ record { rule = rule.PathLong; broken_at = at_if (nat_lt MAX_PATH_CHARS (path_length parts)) 0 }
    ∷ []

-- the first rule that the name of a share breaks
unfoldable pub share_fault : List ℕ → Option NameFault
share_fault bytes = first_broken 0 (share_rules bytes)

-- the first rule that a part breaks
unfoldable pub part_fault : ℕ → List ℕ → Option NameFault
part_fault part bytes = first_broken part (part_rules bytes)

-- the first rule that a list of parts breaks, which are numbered from this number on as far as 4,294,967,295
abbrev pub parts_fault : ℕ → List (List ℕ) → Option NameFault
parts_fault part [] = None
parts_fault part (p ∷ parts) = option_or (part_fault part p) (parts_fault (min (part + 1) 4294967295) parts)

-- the first rule that parts which are names break as a whole path
unfoldable pub whole_fault : List (List ℕ) → Option NameFault
whole_fault parts = first_broken 0 (whole_rules parts)

-- the first rule that a path breaks: one of a part, in the order of the parts, or else one of the path as a whole
unfoldable pub path_fault : List (List ℕ) → Option NameFault
path_fault parts = option_or (parts_fault 1 parts) (first_broken 0 (whole_rules parts))

-- this value, where there is no fault
abbrev pub unless_fault : {N : Type 0} → Option NameFault → N → Result N NameFault
unless_fault None name = Ok name
unless_fault (Some fault) name = Err fault

-- the path of parts that are names, or the first rule that they break as a whole path
abbrev pub path_of : List (List ℕ) → Result (List (List ℕ)) NameFault
path_of parts = unless_fault (whole_fault parts) parts

-- the fault of an answer, if it has one
abbrev pub fault_in : {N : Type 0} → Result N Unnamed → Option NameFault
fault_in (Ok name) = None
fault_in (Err (Fault fault)) = Some fault
fault_in (Err NoMemory) = None
