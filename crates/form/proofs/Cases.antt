-- Cases on either side, computed on images of B = 1: lengths, bad tails, the order of the numbers, the tails that are written, and front buckets
-- whose two backyard buckets coincide.
use mathlib.Core.Path.{◌≡◌, refl}
use Prim.Native.Nat.{ℕ, ◌+◌, ◌-◌, ◌^◌}
use mathlib.Core.Bool.{cond}
use mathlib.Core.List.{List, [], ◌∷◌, ◌++◌, map}
use mathlib.Core.Option.{some, bind}
use lib.ListN.{replicate, set}
use lib.Dec.{eqb}
use Rattle.multiset.specs.Multisets.{added, removed, copies, slot_of, found_in, largest, at_least, ascending, all_zero}
use Rattle.multiset.specs.Digits.{digits, value, spread, grouped, padded, joined}
use Rattle.crumbmap.specs.Layouts.{Numbering, layout1, known, fronts, backyards}
use Rattle.crumbmap.specs.Fingerprints.{front_of, tag_of, mini_of, key_of, fingerprint}
use Rattle.crumbmap.specs.CrumbMap.{stride, first_bucket, first_crumb, second_bucket, second_crumb, coincide, first_home, second_home, home}
use Rattle.buckets.specs.Words.{word_from, minis_from}
use Rattle.buckets.specs.Buckets.{given, valid, slot_bytes, front_bytes, back_bytes, slot_keys, front_members, back_members}
use Rattle.machine.specs.Results.{Result, accepted, refused, number}
use Rattle.machine.specs.Images.{length_of, size_of, bucket_at, put, repeated, front_at, back_at, put_front, put_back, empty_image}
use Rattle.machine.specs.Bags.{has}
use Rattle.machine.specs.Machine.{Change, Asked, Counted, reads_behind, taker, take_in, insert_at, delete_at, ask_second, ask_at, count_at, members_at}
use Rattle.machine.specs.Pages.{run_from, page_from}
use Rattle.machine.specs.Checks.{unsound_front, unsound_back, all_in_turn, early, check_sized}
use Rattle.machine.specs.Merges.{insert_all, merge_from}
use Rattle.machine.specs.Calls as M
use Rattle.machine.specs.Rows as R
use Rattle.machine.specs.OccupancyPages as O
use Rattle.form.specs.Tails.{body, rest, tail_in, tail_bytes, mark_of, started, top, slots, members, raised, lowered, headed, opened}
use Rattle.form.specs.Calls.{changed_by, checked_by, merged_by, unchanged, fresh_of, insert_of, delete_of, ask_of, count_of, row_of, page_of, occupancy_of, check_of, tail_of, merge_sized_of, merge_of}
use Rattle.form.specs.Moves.{attach_of, detach_of}

-- ---- images

-- bodies: every bucket unsound, and every bucket empty
zeros : List ℕ
zeros = replicate {A = ℕ} 1024 0

empty : List ℕ
empty = empty_image layout1 1

-- one member, of hash 0
single : List ℕ
single = put_front layout1 0 (0 ∷ []) empty

-- a front bucket full of key 0, as bytes: 28 zero bits, then 36 ones
heap : List ℕ
heap = padded 64 (digits 256 8 (2 ^ 64 - 2 ^ 28))

-- front bucket 0 and its one backyard bucket full of key 0: 22 zero bits, then 36 ones; the tags; crumb 8, choice 1 with digit 0, in each half byte
crowded : List ℕ
crowded = put 0 heap (put 8 (padded 64 (digits 256 8 (2 ^ 58 - 2 ^ 22) ++ (replicate {A = ℕ} 44 0 ++ replicate {A = ℕ} 11 136))) empty)

-- a member behind a front bucket that has room
hasty : List ℕ
hasty = put_back layout1 1 0 (1 ∷ []) empty

-- front bucket 1 full, b0 = 0 and b1 = 1, and behind it a member with choice 0: its own by crumb 1, or by crumb 0 one of front bucket 0, b0 = b1 = 0
beside : ℕ → List ℕ
beside crumb = put_back layout1 1 0 (crumb ∷ []) (put 1 heap empty)

-- a body with the number of a layout, a total and a change count behind it
form : List ℕ → ℕ → ℕ → ℕ → List ℕ
form b n t c = b ++ tail_bytes n (record { total = t; changes = c })

-- a good tail, but for a 1 in byte i
spoilt : ℕ → List ℕ
spoilt i = zeros ++ set (tail_bytes 1 (started 0)) i 1

-- a target of B = 1, and one of B = 2
target : List ℕ
target = form zeros 0 9 9

larger : List ℕ
larger = replicate {A = ℕ} 1664 0

-- two numbers of one layout
two : Numbering
two n = cond (eqb n 2) (some layout1) (known n)

-- the total and the change count in the tail that was written; 1000, which is neither here, where a call was refused
total_in : Result (List ℕ) → ℕ
total_in (accepted img) = (tail_in (rest img)).total
total_in (refused n i) = 1000

changes_in : Result (List ℕ) → ℕ
changes_in (accepted img) = (tail_in (rest img)).changes
changes_in (refused n i) = 1000

image_in : Result Change → Result (List ℕ)
image_in (accepted c) = accepted c.image
image_in (refused n i) = refused n i

reads_in : Result Asked → ℕ
reads_in (accepted a) = a.reads
reads_in (refused n i) = 1000

count_in : Result Counted → ℕ
count_in (accepted c) = c.reads
count_in (refused n i) = 1000

-- ---- the table

-- what is computed beside what the request says
pub table : List (ℕ × ℕ)
table =
    -- lengths, before any tail
    (number (ask_of known [] 0), 1)
    ∷ (number (ask_of known (replicate {A = ℕ} 1087 0) 0), 1)
    ∷ (number (ask_of known (replicate {A = ℕ} 1088 0) 0), 11)
    -- bad tails: the layout, the total, the rest; and what the tail tells
    ∷ (number (ask_of known (form zeros 2 0 0) 0), 11)
    ∷ (number (ask_of known (form zeros 1 0 0) 0), 3)
    ∷ (number (ask_of known (form zeros 1 401 0) 0), 11)
    ∷ (number (ask_of known (form zeros 1 400 0) 0), 3)
    ∷ (number (ask_of known (spoilt 7) 0), 11)
    ∷ (number (ask_of known (spoilt 15) 0), 3)
    ∷ (number (ask_of known (spoilt 17) 0), 11)
    ∷ (number (ask_of known (spoilt 40) 0), 11)
    ∷ (number (ask_of known (spoilt 63) 0), 11)
    ∷ (number (count_of known (form zeros 2 0 0) 0), 11)
    ∷ (number (count_of known (form zeros 1 0 0) 0), 3)
    ∷ (number (tail_of known zeros), 1)
    ∷ (number (tail_of known (form zeros 2 0 0)), 11)
    ∷ (number (tail_of known (form zeros 1 400 top)), 0)
    -- fresh: 1, 11
    ∷ (number (fresh_of known 2 (replicate {A = ℕ} 1087 0)), 1)
    ∷ (number (fresh_of known 2 (form zeros 1 0 0)), 11)
    ∷ (total_in (fresh_of known 1 (form zeros 2 9 9)), 0)
    ∷ (changes_in (fresh_of known 1 (form zeros 2 9 9)), 0)
    -- insert: 11, 13, 3, 4, 12
    ∷ (number (insert_of known (form zeros 2 0 top) 0), 11)
    ∷ (number (insert_of known (form zeros 1 0 top) 0), 13)
    ∷ (number (insert_of known (form zeros 1 400 0) 0), 3)
    ∷ (number (insert_of known (form crowded 1 400 0) 0), 4)
    ∷ (number (insert_of known (form empty 1 400 0) 0), 12)
    ∷ (total_in (image_in (insert_of known (form empty 1 399 0) 0)), 400)
    ∷ (changes_in (image_in (insert_of known (form empty 1 0 18446744073709551614) 0)), top)
    -- delete: 11, 13, 3, 5, 12
    ∷ (number (delete_of known (form zeros 2 0 top) 0), 11)
    ∷ (number (delete_of known (form zeros 1 0 top) 0), 13)
    ∷ (number (delete_of known (form zeros 1 0 0) 0), 3)
    ∷ (number (delete_of known (form empty 1 0 0) 0), 5)
    ∷ (number (delete_of known (form single 1 0 0) 0), 12)
    ∷ (total_in (image_in (delete_of known (form single 1 1 5) 0)), 0)
    ∷ (changes_in (image_in (delete_of known (form single 1 1 5) 0)), 6)
    -- row: 1, 10, 11, 3
    ∷ (number (row_of known zeros (2 ^ 63 ∷ 0 ∷ [])), 1)
    ∷ (number (row_of known (form zeros 2 0 0) (2 ^ 63 ∷ 0 ∷ [])), 10)
    ∷ (number (row_of known (form zeros 2 0 0) (0 ∷ 2 ^ 63 ∷ [])), 11)
    ∷ (number (row_of known (form zeros 1 0 0) (0 ∷ 2 ^ 63 ∷ [])), 3)
    ∷ (number (row_of known (form empty 1 0 0) (0 ∷ 2 ^ 63 ∷ [])), 0)
    -- page: 11, 14, 6, 3, 7
    ∷ (number (page_of known (form zeros 2 0 5) 9 4 0), 11)
    ∷ (number (page_of known (form zeros 1 0 5) 9 4 0), 14)
    ∷ (number (page_of known (form zeros 1 0 5) 8 6 0), 14)
    ∷ (number (page_of known (form zeros 1 0 5) 9 5 0), 6)
    ∷ (number (page_of known (form zeros 1 0 5) 8 5 0), 0)
    ∷ (number (page_of known (form zeros 1 0 5) 7 5 0), 3)
    ∷ (number (page_of known (form single 1 1 top) 0 0 0), 14)
    ∷ (number (page_of known (form single 1 1 top) 0 top 0), 7)
    -- occupancy: 11, 6, 3, 7
    ∷ (number (occupancy_of known (form zeros 2 0 0) 1 0), 11)
    ∷ (number (occupancy_of known (form zeros 1 0 0) 1 0), 6)
    ∷ (number (occupancy_of known (form zeros 1 0 0) 0 0), 3)
    ∷ (number (occupancy_of known (form empty 1 0 0) 0 1007), 7)
    ∷ (number (occupancy_of known (form empty 1 0 0) 0 1008), 0)
    -- check: 11, 3, 8, 12
    ∷ (number (check_of known (form zeros 2 1 5)), 11)
    ∷ (number (check_of known (form zeros 1 1 5)), 3)
    ∷ (number (check_of known (form hasty 1 0 5)), 8)
    ∷ (number (check_of known (form single 1 0 5)), 12)
    ∷ (number (check_of known (form single 1 1 5)), 0)
    ∷ (number (check_of known (form single 1 2 5)), 12)
    ∷ (number (check_of known (form crowded 1 50 5)), 0)
    -- merge: 1, 2, 11, 2 for another layout's number, the first's 3, 8, 12, the second's
    ∷ (number (merge_of known (form zeros 2 0 0) (form zeros 2 0 0) zeros), 1)
    ∷ (number (merge_of known (form zeros 2 0 0) (form zeros 2 0 0) larger), 2)
    ∷ (number (merge_of known (form zeros 1 0 0) (form zeros 2 0 0) target), 11)
    ∷ (number (merge_of two (form zeros 1 0 0) (form zeros 2 0 0) target), 2)
    ∷ (number (merge_of known (form single 1 0 0) (form zeros 1 0 0) target), 12)
    ∷ (number (merge_of known (form single 1 1 0) (form zeros 1 0 0) target), 3)
    ∷ (number (merge_of known (form crowded 1 50 0) (form single 1 0 0) target), 12)
    ∷ (total_in (merge_of known (form single 1 1 7) (form single 1 1 8) target), 2)
    ∷ (changes_in (merge_of known (form single 1 1 7) (form single 1 1 8) target), 0)
    -- old to new: 1, 2, 11, 3, 8
    ∷ (number (attach_of known 2 zeros zeros), 1)
    ∷ (number (attach_of known 2 zeros larger), 2)
    ∷ (number (attach_of known 2 zeros target), 11)
    ∷ (number (attach_of known 1 zeros target), 3)
    ∷ (number (attach_of known 1 hasty target), 8)
    ∷ (total_in (attach_of known 1 single target), 1)
    ∷ (changes_in (attach_of known 1 single target), 0)
    -- new to old: 1, 2, 11, 3, 8, 12
    ∷ (number (detach_of known 1 (form zeros 2 0 0) (form zeros 1 0 0)), 1)
    ∷ (number (detach_of known 1 (form zeros 2 0 0) (replicate {A = ℕ} 1600 0)), 2)
    ∷ (number (detach_of known 1 (form zeros 2 0 0) zeros), 11)
    ∷ (number (detach_of two 1 (form zeros 2 0 0) zeros), 11)
    ∷ (number (detach_of known 1 (form zeros 1 0 0) zeros), 3)
    ∷ (number (detach_of known 1 (form hasty 1 0 0) zeros), 8)
    ∷ (number (detach_of known 1 (form single 1 0 9) zeros), 12)
    ∷ (number (detach_of known 1 (form single 1 1 9) zeros), 0)
    -- C-17: 2 reads behind front bucket 0, 3 behind front bucket 1; its choice 0 unsound, met for either, and that of front bucket 1 sound
    ∷ (reads_in (ask_of known (form crowded 1 50 0) 1), 2)
    ∷ (count_in (count_of known (form crowded 1 50 0) 0), 2)
    ∷ (reads_in (ask_of known (form (beside 1) 1 29 0) (2 ^ 61 + 1)), 3)
    ∷ (count_in (count_of known (form (beside 1) 1 29 0) (2 ^ 61)), 3)
    ∷ (number (ask_of known (form (beside 0) 1 29 0) (2 ^ 61 + 1)), 3)
    ∷ (number (check_of known (form (beside 0) 1 29 0)), 3)
    ∷ (number (check_of known (form (beside 1) 1 29 0)), 0)
    ∷ (number (attach_of known 1 (beside 0) target), 3)
    ∷ (number (attach_of known 1 (beside 1) target), 0)
    ∷ []

pub cases : map (λ (row : ℕ × ℕ). row.0) table ≡ map (λ (row : ℕ × ℕ). row.1) table
unfolding table zeros empty single heap crowded hasty beside form spoilt target larger two total_in changes_in image_in reads_in count_in body rest tail_in tail_bytes mark_of slots members raised lowered headed opened changed_by checked_by merged_by unchanged fresh_of insert_of delete_of ask_of count_of row_of page_of occupancy_of check_of tail_of merge_sized_of merge_of attach_of detach_of M.insert_of M.delete_of M.ask_of M.count_of M.page_of R.asks_of R.row_of O.occupancy_of O.print_from O.lines_from O.line_at O.line O.column O.aligned O.bar O.blank_line reads_behind taker take_in insert_at delete_at ask_second ask_at count_at members_at insert_all merge_from run_from page_from unsound_front unsound_back all_in_turn early check_sized has length_of size_of bucket_at put repeated front_at back_at put_front put_back empty_image given valid slot_bytes front_bytes back_bytes slot_keys front_members back_members word_from minis_from stride first_bucket first_crumb second_bucket second_crumb coincide first_home second_home home front_of tag_of mini_of key_of fingerprint fronts backyards digits value spread grouped padded joined added removed copies slot_of found_in largest at_least ascending all_zero bind
cases = refl
