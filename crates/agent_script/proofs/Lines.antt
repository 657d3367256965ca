-- What is written for a line, from what is written for its events.
use Rattle.std.proofs.Common.{◌≡◌, ◌∙◌, ℕ, Bool, true, false, not, if◌then◌else◌, List, [], ◌++◌, Option, None, Some, Result, Ok, Err, ap, sym, refl, subst, arith}
use Rattle.std.specs.Prelude.{codes, IfOk, IfErr}
use Rattle.std.specs.Str.{bytes_eq}
use Rattle.ber_core.specs.Reading.{Gives}
use Rattle.message_core.specs.Message.{IsCause}
use Rattle.message_core.specs.FirstFault.{request_at}
use Rattle.message_core.specs.declared.cause.DropCause.{DropCause}
use Rattle.message_core.specs.declared.cause.DropCause.TheVariants.{TooLong, Malformed, BadVersion, BadKind, Memory}
use Rattle.message_core.specs.declared.request.Request.{Request}
use Rattle.frame_core.specs.Reading.{frame_at}
use Rattle.frame_core.specs.declared.frame.FrameIn.{FrameIn}
use Rattle.frame_core.specs.declared.fault.FrameFault.{FrameFault}
use Rattle.community_core.specs.Communities.{PolicyTables}
use Rattle.policy_text.specs.Texts.{HasContent, policy_in}
use Rattle.script_core.specs.Runs.{Adds}
use Rattle.script_core.specs.declared.fault.LineFault.{LineFault}
use Rattle.script_core.specs.declared.fault.LineFault.TheVariants.{Memory as NoMemory, Stopped}
use Rattle.history_core.specs.History.{History, next_of, last_number}
use Rattle.history_core.specs.declared.event.Event.{Event}
use Rattle.agent_script.specs.Commands.{Command, request, frame, tick, link, policy, audit, counts, driver, HasOctets}
use Rattle.history_core.specs.declared.event.Event.TheVariants as event
use Rattle.agent_script.specs.Actions.{Action, happen, drop, refuse_frame, keep, accept, refuse, switch, show_counts, arm, bad_line, happenings_of, reading_action, datagram_action, frame_action, ending, end_action, policy_action, action_in, action_of, action_text, after_action, cause_name, dropped_more, fault_name}
use Rattle.agent_script.specs.Notes.{Note, nothing, unread, happens, is_unread, lacks_memory, IsOut, event_count, MayLackMemory, MayGiveUpCommand, MayGiveUpPolicyLine, Case, MayHappen, MayMeetReading, MayMeetDatagram, MayMeetFrame, MayMeetTables, MayMeetEnd, MayMeetPolicyLine, MayMeetIn, MayMeet, MayGiveUpIn, MayGiveUp}
use Rattle.agent_script.specs.Outputs.{drop_text}
use Rattle.agent_script.specs.Sessions.{Says, SaysOfLine, SaysOfEvents}
use Rattle.agent_script.specs.State.{Agent}

-- events
pub of_events : (e : Event) (n : ℕ) (a : Agent) (stated : List ℕ) (now : Agent) (whole : Bool) → SaysOfEvents e n a stated now whole
    → Says (MayHappen a.history e n) (λ note. happen (happenings_of e note)) a stated now whole
of_events e n a stated now whole p = record {
  note = happens p.mets;
  met = record { mets = p.mets; note_is = refl; count = p.count; may = p.may };
  text = p.text;
  after = p.after;
  whole_is = p.whole_is;
}

-- ---- a datagram

abbrev read_may : Agent → List ℕ → Result Request DropCause → Note → Type 0
read_may a d r note = Case (is_unread note) (IsCause d Memory) (MayMeetReading a.history r note)

abbrev read_action : Result Request DropCause → Note → Action
read_action r note = if is_unread note then drop Memory else reading_action r note

pub datagram_says : (d : List ℕ) (r : Request) (a : Agent) (stated : List ℕ) (now : Agent) (whole : Bool) → request_at d ≡ Ok r
    → SaysOfEvents (event.Request r) 1 a stated now whole → Says (MayMeetDatagram a.history d) (datagram_action d) a stated now whole
datagram_says d r a stated now whole e p =
    subst (λ (x : Result Request DropCause). Says (read_may a d x) (read_action x) a stated now whole) (sym e) (record {
      note = happens p.mets;
      met = record { mets = p.mets; note_is = refl; count = p.count; may = p.may };
      text = p.text;
      after = p.after;
      whole_is = p.whole_is;
    })

-- the agent, with one more datagram that this cause drops
abbrev pub with_drop : Agent → DropCause → Agent
with_drop a cause = record a { drops = dropped_more a.drops cause }

dropped_for : (d : List ℕ) (a : Agent) (cause : DropCause) → request_at d ≡ Err cause → lacks_memory cause ≡ false
    → Says (MayMeetDatagram a.history d) (datagram_action d) a (drop_text (cause_name cause)) (with_drop a cause) true
dropped_for d a cause e other =
    subst (λ (x : Result Request DropCause). Says (read_may a d x) (read_action x) a (drop_text (cause_name cause)) (with_drop a cause) true) (sym e) (record {
      note = nothing;
      met = refl;
      text = refl;
      after = refl;
      whole_is = refl;
    })

pub drop_says : (d : List ℕ) (a : Agent) (cause : DropCause) → IsCause d cause → Gives (Some Memory) (λ (x : Request). x) (Err cause) (request_at d)
    → Says (MayMeetDatagram a.history d) (datagram_action d) a (drop_text (cause_name cause)) (with_drop a cause) (not (lacks_memory cause))
drop_says d a TooLong is gives = dropped_for d a TooLong (gives (λ e. cc e)) refl
drop_says d a Malformed is gives = dropped_for d a Malformed (gives (λ e. cc e)) refl
drop_says d a BadVersion is gives = dropped_for d a BadVersion (gives (λ e. cc e)) refl
drop_says d a BadKind is gives = dropped_for d a BadKind (gives (λ e. cc e)) refl
drop_says d a Memory is gives = record { note = unread; met = is; text = refl; after = refl; whole_is = refl }

-- ---- a frame

pub frame_says : (port : ℕ) (octets : List ℕ) (f : FrameIn) (a : Agent) (stated : List ℕ) (now : Agent) (whole : Bool) → Ok f ≡ frame_at octets
    → SaysOfEvents (event.Frame port f) 1 a stated now whole
    → Says (MayMeetFrame a.history port (frame_at octets)) (frame_action port (frame_at octets)) a stated now whole
frame_says port octets f a stated now whole e p =
    subst (λ (x : Result FrameIn FrameFault). Says (MayMeetFrame a.history port x) (frame_action port x) a stated now whole) e
    (of_events (event.Frame port f) 1 a stated now whole p)

pub bad_frame_says : (port : ℕ) (octets : List ℕ) (fault : FrameFault) (a : Agent) → Err fault ≡ frame_at octets
    → Says (MayMeetFrame a.history port (frame_at octets)) (frame_action port (frame_at octets)) a
    (codes "badframe " ++ fault_name fault ++ codes "\n") a true
bad_frame_says port octets fault a e =
    subst (λ (x : Result FrameIn FrameFault). Says (MayMeetFrame a.history port x) (frame_action port x) a
    (codes "badframe " ++ fault_name fault ++ codes "\n") a true) e
    (record { note = nothing; met = refl; text = refl; after = refl; whole_is = refl })

-- ---- a policy

abbrev end_may : Agent → List ℕ → Option PolicyTables → Note → Type 0
end_may a lines o note = Case (is_unread note) (HasContent lines) (MayMeetTables a.history o note)

abbrev read_end : Option PolicyTables → Note → Action
read_end o note = if is_unread note then refuse else ending o note

-- a policy comes into force; none is open
pub accepted_says : (lines : List ℕ) (tables : PolicyTables) (a : Agent) (stated : List ℕ) (now : Agent) (whole : Bool) → a.policy_lines ≡ None
    → Some tables ≡ policy_in lines → SaysOfEvents (event.Policy tables) 1 a stated now whole
    → Says (MayMeetEnd a.history lines) (end_action lines) a stated now whole
accepted_says lines tables a stated now whole closed e p =
    subst (λ (x : Option PolicyTables). Says (end_may a lines x) (read_end x) a stated now whole) e (record {
      note = happens p.mets;
      met = record { mets = p.mets; note_is = refl; count = p.count; may = p.may };
      text = p.text;
      after = p.after ∙ ap (λ (l : Option (List ℕ)). record (after_action a (happen (happenings_of (event.Policy tables) (happens p.mets)))) { policy_lines = l }) closed;
      whole_is = p.whole_is;
    })

-- a policy is refused; none is open
pub refused_says : (lines : List ℕ) (a : Agent) → a.policy_lines ≡ None → None ≡ policy_in lines
    → Says (MayMeetEnd a.history lines) (end_action lines) a (codes "policy refused\n") a true
refused_says lines a closed e =
    subst (λ (x : Option PolicyTables). Says (end_may a lines x) (read_end x) a (codes "policy refused\n") a true) e (record {
      note = nothing;
      met = refl;
      text = refl;
      after = ap (λ (l : Option (List ℕ)). record a { policy_lines = l }) closed;
      whole_is = refl;
    })

pub unread_says : (lines : List ℕ) (a : Agent) → a.policy_lines ≡ None → HasContent lines
    → Says (MayMeetEnd a.history lines) (end_action lines) a (codes "policy refused\n") a false
unread_says lines a closed has = record {
  note = unread;
  met = has;
  text = refl;
  after = ap (λ (l : Option (List ℕ)). record a { policy_lines = l }) closed;
  whole_is = refl;
}

-- its end, and another line of it
pub end_says : (lines line : List ℕ) (a : Agent) (stated : List ℕ) (now : Agent) (whole : Bool) → bytes_eq line (codes "end") ≡ true
    → Says (MayMeetEnd a.history lines) (end_action lines) a stated now whole
    → Says (MayMeetPolicyLine a.history lines line) (policy_action lines line) a stated now whole
end_says lines line a stated now whole e p =
    subst (λ (x : Bool). Says (λ note. Case x (MayMeetEnd a.history lines note) (note ≡ nothing))
    (λ note. if x then end_action lines note else keep (lines ++ line ++ codes "\n")) a stated now whole) (sym e) p

pub kept_says : (lines line : List ℕ) (a now : Agent) → bytes_eq line (codes "end") ≡ false
    → now ≡ record a { policy_lines = Some (lines ++ line ++ codes "\n") }
    → Says (MayMeetPolicyLine a.history lines line) (policy_action lines line) a [] now true
kept_says lines line a now e is =
    subst (λ (x : Bool). Says (λ note. Case x (MayMeetEnd a.history lines note) (note ≡ nothing))
    (λ note. if x then end_action lines note else keep (lines ++ line ++ codes "\n")) a [] now true) (sym e)
    (record { note = nothing; met = refl; text = refl; after = is; whole_is = refl })

-- ---- the lines of a policy are taken out while its line is answered

abbrev pub closed : Agent → Agent
closed a = record a { policy_lines = None }

text_open : (a : Agent) (x : Action) → action_text (closed a) x ≡ action_text a x
text_open a bad_line = refl
text_open a (happen happenings) = refl
text_open a (drop cause) = refl
text_open a (refuse_frame fault) = refl
text_open a (keep lines) = refl
text_open a (accept happenings) = refl
text_open a refuse = refl
text_open a (switch on) = refl
text_open a show_counts = refl
text_open a (arm plan) = refl

after_ending : (a : Agent) (o : Option PolicyTables) (note : Note) → after_action (closed a) (ending o note) ≡ after_action a (ending o note)
after_ending a (Some tables) note = refl
after_ending a None note = refl

after_end_by : (a : Agent) (lines : List ℕ) (note : Note) (lost : Bool)
    → after_action (closed a) (if lost then refuse else ending (policy_in lines) note)
    ≡ after_action a (if lost then refuse else ending (policy_in lines) note)
after_end_by a lines note true = refl
after_end_by a lines note false = after_ending a (policy_in lines) note

after_open : (a : Agent) (lines line : List ℕ) (note : Note) (ends : Bool)
    → after_action (closed a) (if ends then end_action lines note else keep (lines ++ line ++ codes "\n"))
    ≡ after_action a (if ends then end_action lines note else keep (lines ++ line ++ codes "\n"))
after_open a lines line note true = after_end_by a lines note (is_unread note)
after_open a lines line note false = refl

pub open_says : (lines line : List ℕ) (a : Agent) (stated : List ℕ) (now : Agent) (whole : Bool)
    → Says (MayMeetPolicyLine a.history lines line) (policy_action lines line) (closed a) stated now whole
    → Says (MayMeetPolicyLine a.history lines line) (policy_action lines line) a stated now whole
open_says lines line a stated now whole p = record {
  note = p.note;
  met = p.met;
  text = p.text ∙ text_open a (policy_action lines line p.note);
  after = p.after ∙ after_open a lines line p.note (bytes_eq line (codes "end"));
  whole_is = p.whole_is;
}

-- ---- under a result

-- what is written weakens
pub under : {A B : List ℕ → Bool → Type 0} (result : Result Bool LineFault) (old new : List ℕ)
    → ((stated : List ℕ) (whole : Bool) → A stated whole → B stated whole)
    → IfOk result (λ whole. Adds old new (λ stated. A stated whole)) → IfOk result (λ whole. Adds old new (λ stated. B stated whole))
under (Ok whole) old new f p = record { stated = p.stated; added = p.added; holds = f p.stated whole p.holds }
under (Err fault) old new f p = tt

-- a command is given up, where it may lack memory
pub gives_up : (result : Result Bool LineFault) (h : History) (command : Option Command) → MayLackMemory command
    → IfErr result (λ fault. fault ≡ Stopped → IsOut h (event_count command)) → IfErr result (MayGiveUpCommand h command)
gives_up (Ok whole) h command lacks p = tt
gives_up (Err NoMemory) h command lacks p = lacks
gives_up (Err Stopped) h command lacks p = p refl

pub policy_gives_up : (result : Result Bool LineFault) (h : History) → IfErr result (λ fault. fault ≡ Stopped → next_of h ≡ last_number)
    → IfErr result (MayGiveUpPolicyLine h)
policy_gives_up (Ok whole) h p = tt
policy_gives_up (Err NoMemory) h p = tt
policy_gives_up (Err Stopped) h p = omega (arith, p refl)

-- a line is given up as its command, or as a line of a policy
pub one_is_out : (result : Result Bool LineFault) (h : History) → IfErr result (λ fault. fault ≡ Stopped → next_of h ≡ last_number)
    → IfErr result (λ fault. fault ≡ Stopped → IsOut h 1)
one_is_out (Ok whole) h p = tt
one_is_out (Err fault) h p = λ stopped. omega (arith, p stopped)

-- a command that is read from hexadecimal
pub octets_lack : (command : Option Command) → HasOctets command → MayLackMemory command
octets_lack None h = tt
octets_lack (Some (request datagram)) h = tt
octets_lack (Some (frame port octets)) h = tt
octets_lack (Some (tick seconds)) h = tt
octets_lack (Some (link port up)) h = tt
octets_lack (Some policy) h = absurd h
octets_lack (Some (audit on)) h = absurd h
octets_lack (Some counts) h = tt
octets_lack (Some (driver plan)) h = absurd h

-- ---- a line of an open policy

-- a line, where these lines of a policy are open
pub line_of_policy : (a b : Agent) (lines line stated : List ℕ) (now : Agent) (whole : Bool) → a.policy_lines ≡ Some lines → b ≡ closed a
    → Says (MayMeetPolicyLine b.history lines line) (policy_action lines line) b stated now whole → SaysOfLine a line stated now whole
unfolding MayMeet action_of
line_of_policy a b lines line stated now whole is closes p =
    subst (λ (o : Option (List ℕ)). Says (λ note. MayMeetIn a o line note) (λ note. action_in a o line note) a stated now whole) (sym is)
    (open_says lines line a stated now whole
    (subst (λ (x : Agent). Says (MayMeetPolicyLine x.history lines line) (policy_action lines line) x stated now whole) closes p))

pub policy_line_gives_up : (result : Result Bool LineFault) (a b : Agent) (lines line : List ℕ) → a.policy_lines ≡ Some lines → b ≡ closed a
    → IfErr result (MayGiveUpPolicyLine b.history) → IfErr result (MayGiveUp a line)
unfolding MayGiveUp
policy_line_gives_up (Ok whole) a b lines line is closes p = tt
policy_line_gives_up (Err fault) a b lines line is closes p =
    subst (λ (o : Option (List ℕ)). MayGiveUpIn a o line fault) (sym is)
    (subst (λ (x : Agent). MayGiveUpPolicyLine x.history fault) closes p)
