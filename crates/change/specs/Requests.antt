-- The serials of a new row, and the requests that go out.
use Rattle.std.specs.Prelude.{ℕ, ◌+◌, Bool, true, false, cond, List, [], ◌∷◌, ◌==◌}
use Rattle.mcptt.specs.declared.identity.GroupId.{GroupId}
use Rattle.rows.specs.declared.entry.Entry.{Entry}
use Rattle.rows.specs.declared.request.Request.{Request}
use Rattle.rows.specs.Holdings.{radios_holding}
use Rattle.change.specs.declared.plan.Sending.{Sending}
use Rattle.change.specs.declared.plan.Sending.TheVariants.{Silent, Affiliate, Release}
use Rattle.change.specs.declared.plan.Move.{Move}

-- a request is sent
abbrev pub sends : Sending → Bool
sends Silent = false
sends Affiliate = true
sends Release = true

-- each use of a serial raises it by 1
abbrev pub serial_after : ℕ → Sending → ℕ
serial_after serial sending = cond (sends sending) (serial + 1) serial

-- an entry that asks takes the serial of its request
abbrev pub with_serial : ℕ → Entry → Sending → Entry
with_serial serial e Silent = e
with_serial serial e Affiliate = record { group = e.group; status = e.status; end = e.end; serial = serial }
with_serial serial e Release = e

-- the entries of the new row, with the serials from the next one on
abbrev pub settled : ℕ → List Move → List Entry
settled serial [] = []
settled serial (m ∷ ms) = with_serial serial m.entry m.sending ∷ settled (serial_after serial m.sending) ms

-- the Expires values of a request: for good, and for a group that no radio of the user holds
abbrev pub expires_held : ℕ
expires_held = 4294967295

abbrev pub expires_released : ℕ
expires_released = 0

-- a request names the radios of the user that now hold the group
abbrev pub request_for : ℕ → ℕ → List (List Entry) → ℕ → GroupId → Request
request_for user time rows serial g =
    record {
      user = record { number = user };
      group = g;
      serial = serial;
      radios = radios_holding time g.number rows;
      expires = cond (radios_holding time g.number rows == 0) expires_released expires_held;
    }

-- the requests in the order of the new row, with the serials from the next one on
abbrev pub requests_for : ℕ → ℕ → List (List Entry) → ℕ → List Move → List Request
requests_for user time rows serial [] = []
requests_for user time rows serial (m ∷ ms) =
    cond (sends m.sending)
    (request_for user time rows serial m.entry.group ∷ requests_for user time rows (serial + 1) ms)
    (requests_for user time rows serial ms)
