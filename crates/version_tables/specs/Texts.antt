-- The texts that the store runs. The numbers ?1, ?2, .. are their parameters, and ? alone is the
-- one after the greatest before it.
use Rattle.std.specs.Prelude.{◌++◌, ℕ, List, codes, replicate}
use Rattle.std.specs.List.{concat}

-- ---- the three tables, and the row of bt_meta

-- the table of a store's form and clock
abbrev pub meta_text : List ℕ
meta_text =
    codes "CREATE TABLE bt_meta (id INTEGER PRIMARY KEY, form INTEGER NOT NULL, "
    ++ codes "clock INTEGER NOT NULL) STRICT"

-- the table of definitions
abbrev pub table_text : List ℕ
table_text = codes "CREATE TABLE bt_table (id INTEGER PRIMARY KEY, def BLOB NOT NULL) STRICT"

-- the table of versions, with its key
abbrev pub version_text : List ℕ
version_text =
    codes "CREATE TABLE bt_version (tab INTEGER NOT NULL, vals BLOB NOT NULL, "
    ++ codes "s INTEGER NOT NULL, e INTEGER NOT NULL, ss INTEGER NOT NULL, "
    ++ codes "se INTEGER NOT NULL, PRIMARY KEY (tab, vals, s, ss)) STRICT"

-- the row of bt_meta: ?1 is the form, ?2 the clock
abbrev pub begin_text : List ℕ
begin_text = codes "INSERT INTO bt_meta (id, form, clock) VALUES (1, ?1, ?2)"

-- ---- the changes

-- a version is removed, by its key
abbrev pub delete_text : List ℕ
delete_text = codes "DELETE FROM bt_version WHERE tab = ?1 AND vals = ?2 AND s = ?3 AND ss = ?4"

-- the system time of a version ends at ?5
abbrev pub update_text : List ℕ
update_text =
    codes "UPDATE bt_version SET se = ?5 WHERE tab = ?1 AND vals = ?2 AND s = ?3 AND ss = ?4"

-- the system time of the versions with the numbers from ?1 to ?2 ends at ?3
abbrev pub end_run_text : List ℕ
end_run_text = codes "UPDATE bt_version SET se = ?3 WHERE rowid >= ?1 AND rowid <= ?2"

-- a version gets another end, ?5, and another end of its system time, ?6
abbrev pub move_text : List ℕ
move_text =
    codes "UPDATE bt_version SET e = ?5, se = ?6 "
    ++ codes "WHERE tab = ?1 AND vals = ?2 AND s = ?3 AND ss = ?4"

-- a definition ?2 is added under its number ?1
abbrev pub define_text : List ℕ
define_text = codes "INSERT INTO bt_table (id, def) VALUES (?1, ?2)"

-- the clock is set to ?1
abbrev pub clock_text : List ℕ
clock_text = codes "UPDATE bt_meta SET clock = ?1"

-- The moments of the versions, in microseconds in place of seconds: ?1 is the open end in seconds,
-- ?2 is the other one.

-- all versions are moved to microseconds
abbrev pub microseconds_text : List ℕ
microseconds_text =
    codes "UPDATE bt_version SET ss = ss * 1000000, "
    ++ codes "se = CASE WHEN se = ?1 THEN ?2 ELSE se * 1000000 END"

-- the form is set to ?1, and the clock to ?2
abbrev pub form_text : List ℕ
form_text = codes "UPDATE bt_meta SET form = ?1, clock = ?2"

-- Versions are added by one, two, four, eight or thirty-two in a statement. ?1 is their table, ?2
-- and ?3 are the ends of their system time, and each of them has three more parameters.

-- the text that adds one version
abbrev pub one_text : List ℕ
one_text =
    codes "INSERT INTO bt_version (tab, vals, s, e, ss, se) VALUES (?1, ?4, ?5, ?6, ?2, ?3)"

-- the text for one more row, whose own parameters are the next three
abbrev next_row : List ℕ
next_row = codes ", (?1, ?, ?, ?, ?2, ?3)"

-- two versions are added
abbrev pub two_text : List ℕ
two_text = one_text ++ next_row

-- four versions are added
abbrev pub four_text : List ℕ
four_text = one_text ++ concat (replicate 3 next_row)

-- eight versions are added
abbrev pub eight_text : List ℕ
eight_text = one_text ++ concat (replicate 7 next_row)

-- thirty-two versions are added
abbrev pub thirty_two_text : List ℕ
thirty_two_text = one_text ++ concat (replicate 31 next_row)

-- Thirty-two rows are also added with numbers that are given: each has its number before its three
-- parameters.

-- thirty-two versions are added, each with its number
abbrev pub numbered_text : List ℕ
numbered_text =
    codes "INSERT INTO bt_version (rowid, tab, vals, s, e, ss, se) VALUES "
    ++ codes "(?4, ?1, ?, ?, ?, ?2, ?3)"
    ++ concat (replicate 31 (codes ", (?, ?1, ?, ?, ?, ?2, ?3)"))

-- ---- the queries

-- The versions of a table: all of them, those whose system time ends at a moment, and those whose
-- system time ends after one moment and begins before another.

-- all versions of the table ?1
abbrev pub whole_text : List ℕ
whole_text = codes "SELECT vals, s, e, ss, se FROM bt_version WHERE tab = ?1 ORDER BY vals, s, ss"

-- the versions whose system time ends at ?2
abbrev pub ending_text : List ℕ
ending_text =
    codes "SELECT vals, s, e, ss, se FROM bt_version WHERE tab = ?1 AND se = ?2 "
    ++ codes "ORDER BY vals, s, ss"

-- the versions whose system time ends after ?2 and begins before ?3
abbrev pub overlapping_text : List ℕ
overlapping_text =
    codes "SELECT vals, s, e, ss, se FROM bt_version WHERE tab = ?1 AND ss < ?3 AND ?2 < se "
    ++ codes "ORDER BY vals, s, ss"

-- the number of a version, by its key
abbrev pub number_text : List ℕ
number_text =
    codes "SELECT rowid FROM bt_version WHERE tab = ?1 AND vals = ?2 AND s = ?3 AND ss = ?4"

-- the keys of the versions with the numbers from ?1 to ?2, in the order of these
abbrev pub run_keys_text : List ℕ
run_keys_text =
    codes "SELECT tab, vals, s, ss FROM bt_version WHERE rowid >= ?1 AND rowid <= ?2 "
    ++ codes "ORDER BY rowid"

-- all rows of bt_meta
abbrev pub meta_rows_text : List ℕ
meta_rows_text = codes "SELECT id, form, clock FROM bt_meta ORDER BY id"

-- all definitions, by their numbers
abbrev pub table_rows_text : List ℕ
table_rows_text = codes "SELECT id, def FROM bt_table ORDER BY id"

-- all versions of all tables, in no order that is asked for
abbrev pub version_rows_text : List ℕ
version_rows_text = codes "SELECT tab, vals, s, e, ss, se FROM bt_version"

-- the numbers of all versions, in order
abbrev pub rowids_text : List ℕ
rowids_text = codes "SELECT rowid FROM bt_version ORDER BY rowid"

-- the keys of all versions, in order
abbrev pub keys_text : List ℕ
keys_text = codes "SELECT tab, vals, s, ss FROM bt_version ORDER BY tab, vals, s, ss"
