-- Whether rows are a table of a contract, as a test.
use Rattle.std.specs.Prelude.{◌&&◌, ◌||◌, ◌==◌, Bool, true, not, List, [], ◌∷◌, length, nat_le, nat_lt}
use Rattle.std.specs.List.{list_all}
use Rattle.xh_model.specs.declared.row.Row.{Row}
use Rattle.xh_model.specs.declared.limits.TheConstants.{MAX_ROWS, STATES}

abbrev pub is_row : Row → Bool
is_row row = nat_lt row.state STATES && nat_le row.side 1 && nat_lt row.next STATES

-- two rows of one state have one sending side, and not one tag
abbrev pub agree : Row → Row → Bool
agree a b = not (a.state == b.state) || ((a.side == b.side) && not (a.tag == b.tag))

abbrev pub all_agree : List Row → Bool
all_agree [] = true
all_agree (row ∷ rows) = list_all (agree row) rows && all_agree rows

-- rows in range, of which each two agree
unfoldable pub is_table : List Row → Bool
is_table rows = nat_le 1 (length rows) && nat_le (length rows) MAX_ROWS && list_all is_row rows && all_agree rows
