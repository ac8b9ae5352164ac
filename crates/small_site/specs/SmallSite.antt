-- A small site, call by call: F is 32, the time 1,000; user 7 has N2 = 2 and the first serial 1; the groups 10, 20, 30 have the priorities 1, 2, 3.
use Rattle.std.specs.Prelude.{◌≡◌, ℕ, true, false, List, [], ◌∷◌, Some, Ok, Err}
use Rattle.mcptt.specs.declared.identity.GroupId.{GroupId}
use Rattle.mcptt.specs.declared.refusal.Refusal.TheVariants.{LimitReached}
use Rattle.preference.specs.declared.priority.PriorityRow.{PriorityRow}
use Rattle.preference.specs.Orders.{by_rank}
use Rattle.preference.specs.Priorities.{priority_of}
use Rattle.rows.specs.declared.entry.Status.{Status}
use Rattle.rows.specs.declared.entry.Status.TheVariants.{Affiliating, Affiliated, Deaffiliating}
use Rattle.rows.specs.declared.entry.Entry.{Entry}
use Rattle.rows.specs.declared.request.Request.{Request}
use Rattle.rows.specs.Entries.{live}
use Rattle.rows.specs.Standings.{Standing}
use Rattle.change.specs.Changes.{Moment, moment, Change, change_of, change_answer, after_change, out_after_change}
use Rattle.notice.specs.Notices.{Notify, notify_answer, after_notify}
use Rattle.notice.specs.Implicit.{begin_answer, after_begin, cancel_answer, after_cancel}

abbrev pub group : ℕ → GroupId
group n = record { number = n }

abbrev pub row : ℕ → ℕ → PriorityRow
row g priority = record { group = group g; priority = priority }

-- the time, timer F, and the order of the priority table
abbrev pub now_here : Moment
now_here = moment 1000 32 (by_rank (priority_of (row 10 1 ∷ row 20 2 ∷ row 30 3 ∷ [])))

abbrev pub entry : ℕ → Status → ℕ → ℕ → Entry
entry g status end serial = record { group = group g; status = status; end = end; serial = serial }

-- user 7 with this next serial and these entries of radio 1 and radio 2; radios 3 and 4 have none
abbrev pub user_7 : ℕ → List Entry → List Entry → Standing
user_7 next one two = record { enrolled = true; limit = 2; next = next; rows = one ∷ two ∷ [] ∷ [] ∷ [] }

-- a request of user 7
abbrev pub request : ℕ → ℕ → ℕ → ℕ → Request
request g serial radios expires =
    record { user = record { number = 7 }; group = group g; serial = serial; radios = radios; expires = expires }

-- an outgoing list of 24 places, each filled with this request
abbrev pub places : Request → List Request
places r = r ∷ r ∷ r ∷ r ∷ r ∷ r ∷ r ∷ r ∷ r ∷ r ∷ r ∷ r ∷ r ∷ r ∷ r ∷ r ∷ r ∷ r ∷ r ∷ r ∷ r ∷ r ∷ r ∷ r ∷ []

-- the first places of it are these, and the places behind are as they were
abbrev pub two_sent : Request → Request → Request → List Request
two_sent a b r = a ∷ b ∷ r ∷ r ∷ r ∷ r ∷ r ∷ r ∷ r ∷ r ∷ r ∷ r ∷ r ∷ r ∷ r ∷ r ∷ r ∷ r ∷ r ∷ r ∷ r ∷ r ∷ r ∷ r ∷ []

abbrev pub one_sent : Request → Request → List Request
one_sent a r = two_sent a r r

-- the calls of CHANGE, and the words of the owner
abbrev pub wants_three : Change
wants_three = change_of 7 1 600 (group 30 ∷ group 10 ∷ group 20 ∷ []) 24

abbrev pub wants_one : Change
wants_one = change_of 7 1 600 (group 20 ∷ []) 24

abbrev pub word : ℕ → ℕ → Notify
word g interval = record { group = g; radios = 1; interval = interval; serial = Some 1 }

-- how user 7 stands after each call
abbrev pub enrolled_7 : Standing
enrolled_7 = user_7 1 [] []

abbrev pub asked_7 : Standing
asked_7 = user_7 3 (entry 10 Affiliating 1600 1 ∷ entry 20 Affiliating 1600 2 ∷ []) []

abbrev pub told_7 : Standing
told_7 = user_7 3 (entry 10 Affiliated 1600 1 ∷ entry 20 Affiliating 1600 2 ∷ []) []

abbrev pub given_up_10 : Entry
given_up_10 = entry 10 Deaffiliating 1064 1

abbrev pub changed_7 : Standing
changed_7 = user_7 4 (given_up_10 ∷ entry 20 Affiliating 1600 2 ∷ []) []

abbrev pub begun_7 : Standing
begun_7 = user_7 5 (given_up_10 ∷ entry 20 Affiliating 1600 2 ∷ []) (entry 50 Affiliating 4294968295 4 ∷ [])

abbrev pub cancelled_7 : Standing
cancelled_7 = user_7 5 (given_up_10 ∷ entry 20 Affiliating 1600 2 ∷ []) []

pub record SmallSite : Type 0 where
  -- CHANGE of radio 1 to 30, 10, 20 for 600: two requests, one turned down
  pub asks : change_answer now_here enrolled_7 wants_three ≡ Ok (2, 1)
  pub asked : after_change now_here enrolled_7 wants_three ≡ asked_7
  pub asking : (r : Request) → out_after_change now_here enrolled_7 wants_three (places r) ≡ two_sent (request 10 1 1 4294967295) (request 20 2 1 4294967295) r
  -- NOTIFY of 20 with the serial of another request: nothing
  pub stale : notify_answer 1000 asked_7 (word 20 600) ≡ Ok 0
  pub unmoved : after_notify 1000 asked_7 (word 20 600) ≡ asked_7
  -- NOTIFY of 10 with its serial: affiliated, and its own end is the earlier
  pub tells : notify_answer 1000 asked_7 (word 10 2592000) ≡ Ok 1
  pub told : after_notify 1000 asked_7 (word 10 2592000) ≡ told_7
  -- CHANGE of radio 1 to 20: group 10 is released with Expires 0
  pub changes : change_answer now_here told_7 wants_one ≡ Ok (1, 0)
  pub changed : after_change now_here told_7 wants_one ≡ changed_7
  pub releasing : (r : Request) → out_after_change now_here told_7 wants_one (places r) ≡ one_sent (request 10 3 0 0) r
  -- BEGIN at radio 2 for 50, then at radio 1 for 60
  pub begins : begin_answer 1000 changed_7 2 50 ≡ Ok 4
  pub begun : after_begin 1000 changed_7 2 50 ≡ begun_7
  pub full : begin_answer 1000 begun_7 1 60 ≡ Err LimitReached
  pub as_before : after_begin 1000 begun_7 1 60 ≡ begun_7
  -- CANCEL for 50
  pub cancels : cancel_answer begun_7 2 50 4 ≡ Ok true
  pub cancelled : after_cancel begun_7 2 50 4 ≡ cancelled_7
  -- at 1,063 entry 10 is live, at 1,064 not
  pub lives : live 1063 given_up_10 ≡ true
  pub ends : live 1064 given_up_10 ≡ false
