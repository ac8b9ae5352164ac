-- The numbers, parties, SIP answers and words of the refusals.
use Rattle.std.specs.Prelude.{◌≡◌, ℕ, Bool, false, MatchResult, cond, ◌&&◌, List, Some, None, Ok, Err, codes, Option, Result, ◌==◌, nat_le}
use Rattle.mcptt.specs.declared.refusal.SipAnswer.{SipAnswer}
use Rattle.mcptt.specs.declared.refusal.Party.{Party}
use Rattle.mcptt.specs.declared.refusal.Party.TheVariants.{Integrator, Technician, RadioSide, OutsideServer, GroupOffice}
use Rattle.mcptt.specs.declared.refusal.Refusal.{Refusal}
use Rattle.mcptt.specs.declared.refusal.Refusal.TheVariants.{SettingOutOfRange, TimeBackwards, TimeTooFar, OutgoingTooShort, NumberOutOfRange, AlreadyEnrolled, EnrolmentOutOfRange, NotEnrolled, IntervalZero, WantedListFaulty, SerialsUsedUp, RowTooLong, HeldAlready, LimitReached, ExpiresOutOfRange, NoDocument, UserNotNamed, NotSheetSize, WrongSum, ContentFaulty, RosterFull}

-- the number that a host reports
abbrev pub number_of : Refusal → ℕ
number_of SettingOutOfRange = 1
number_of TimeBackwards = 2
number_of TimeTooFar = 3
number_of OutgoingTooShort = 4
number_of NumberOutOfRange = 5
number_of AlreadyEnrolled = 6
number_of EnrolmentOutOfRange = 7
number_of NotEnrolled = 8
number_of IntervalZero = 9
number_of WantedListFaulty = 10
number_of SerialsUsedUp = 11
number_of RowTooLong = 12
number_of HeldAlready = 13
number_of LimitReached = 14
number_of ExpiresOutOfRange = 15
number_of NoDocument = 16
number_of UserNotNamed = 17
number_of NotSheetSize = 18
number_of WrongSum = 19
number_of ContentFaulty = 20
number_of RosterFull = 21

-- whose doing the refusal of a number is: 1 to 5, 6 and 7, 8 to 14, 15 to 17, 18 to 21
abbrev pub party_of : ℕ → Party
party_of n = cond (nat_le n 5) Integrator (cond (nat_le n 7) Technician (cond (nat_le n 14) RadioSide (cond (nat_le n 17) OutsideServer GroupOffice)))

-- the SIP answers: 423 with Min-Expires for 15, 403 for 16 and 17
abbrev pub brief : Option SipAnswer
brief = Some (record { code = 423; min_expires = Some 4294967295 })

abbrev pub forbidden : Option SipAnswer
forbidden = Some (record { code = 403; min_expires = None })

abbrev pub sip_of : ℕ → Option SipAnswer
sip_of n = cond (n == 15) brief (cond (nat_le 16 n && nat_le n 17) forbidden None)

-- what is said of it to a person
abbrev pub words_of : Refusal → List ℕ
words_of SettingOutOfRange = codes "timer F or grant G out of range"
words_of TimeBackwards = codes "earlier than the time"
words_of TimeTooFar = codes "time above 1099511627776"
words_of OutgoingTooShort = codes "outgoing list under 24 places"
words_of NumberOutOfRange = codes "number out of range"
words_of AlreadyEnrolled = codes "already enrolled"
words_of EnrolmentOutOfRange = codes "N2 not 1 to 16, or first serial 0"
words_of NotEnrolled = codes "not enrolled"
words_of IntervalZero = codes "interval 0"
words_of WantedListFaulty = codes "over 16 wanted groups, a 0 or a group twice"
words_of SerialsUsedUp = codes "next serial above 4294967271"
words_of RowTooLong = codes "new row over 24 entries"
words_of HeldAlready = codes "radio holds the group"
words_of LimitReached = codes "user holds N2 groups and not this one"
words_of ExpiresOutOfRange = codes "Expires neither 0 nor 4294967295"
words_of NoDocument = codes "group without a document"
words_of UserNotNamed = codes "user not named"
words_of NotSheetSize = codes "not 512 bytes"
words_of WrongSum = codes "wrong sum"
words_of ContentFaulty = codes "content against the layout or the rules of a document"
words_of RosterFull = codes "roster full"

-- a call that answers only that it is done, or its refusal
abbrev pub answered : Option Refusal → Result (Unit {0}) Refusal
answered None = Ok tt
answered (Some refusal) = Err refusal

-- what a checked value is made of: the value with that number, or refusal 5, which says that the number is out of range
abbrev pub Checks : {X : Type 0} → (X → ℕ) → (ℕ → Bool) → ℕ → Result X Refusal → Type 0
Checks number_in is_in_range number made =
    MatchResult made (λ x. number_in x ≡ number) (λ refusal. (is_in_range number ≡ false) × (refusal ≡ NumberOutOfRange))
