-- All that the rules look at after a history.
use Rattle.std.specs.Prelude.{ℕ, Bool, List, Option}
use Rattle.com_base.specs.declared.hresult.HResult.{HResult}
use Rattle.com_base.specs.declared.value.Value.{Value}
use Rattle.com_body.specs.declared.actions.Action.{Action}
use Rattle.com_model.specs.declared.deeds.Entry.{Entry}
use Rattle.com_model.specs.declared.scenario.Scenario.{Scenario}
use Rattle.com_model.specs.Openers.{Opener, openers, served}
use Rattle.com_model.specs.Apartments.{home, running, init_count, next_sta, main_sta, over}
use Rattle.com_model.specs.Objects.{objects, named, class_of, owns, owner}
use Rattle.com_model.specs.Calls.{Issue, Admission, issue, admitted, returned, calls, causes}
use Rattle.com_model.specs.Clock.{clock, issued_at, filter_of}
use Rattle.com_model.specs.Frames.{scene, act}
use Rattle.com_model.specs.Endings.{Ending, ending}
use Rattle.com_refs_books.specs.Changes.{Books}
use Rattle.com_model.specs.Books.{books}
use Rattle.com_model.specs.Waiting.{Phase, Mail, phase, inbox, mail, quit_stands}
use Rattle.com_model.specs.Dying.{dying}
use Rattle.com_model.specs.Issue.{at_issue, unread}

-- What the rules look at beside the scenario and the lane: readings of a history, or of a core's tables.
pub record Sight : Type 0 where
  -- of a lane
  pub openers : ℕ → List Opener
  pub served : ℕ → ℕ
  pub home : ℕ → Option ℕ
  pub running : ℕ → Option ℕ
  pub count : ℕ → ℕ
  pub over : ℕ → Bool
  pub act : ℕ → Option Action
  pub filter : ℕ → Option ℕ
  pub mail : ℕ → Mail
  pub quit : ℕ → Bool
  pub dying : ℕ → List ℕ
  -- of an apartment
  pub next_sta : ℕ
  pub main_sta : ℕ
  pub inbox : ℕ → List ℕ
  -- of an object, with an apartment or a lane
  pub objects : ℕ
  pub named : ℕ → ℕ
  pub class : ℕ → ℕ
  pub owns : ℕ → ℕ → Bool
  pub owner : ℕ → ℕ → ℕ
  -- of a call
  pub calls : ℕ
  pub causes : ℕ
  pub issue : ℕ → Option Issue
  pub admitted : ℕ → Option Admission
  pub returned : ℕ → Bool
  pub ending : ℕ → Option Ending
  pub at_issue : ℕ → HResult
  pub unread : ℕ → List Value
  pub phase : ℕ → Phase
  pub issued_at : ℕ → ℕ
  -- of all
  pub clock : ℕ
  pub books : Books
  pub buffers : ℕ → List ℕ

-- What the rules see after a history.
abbrev pub sight : Scenario → List Entry → Sight
sight s h = record {
  openers = openers h;
  served = served h;
  home = home s h;
  running = running s h;
  count = init_count h;
  over = over h;
  act = act s h;
  filter = filter_of s h;
  mail = mail h;
  quit = quit_stands h;
  dying = dying s h;
  next_sta = next_sta h;
  main_sta = main_sta h;
  inbox = inbox s h;
  objects = objects h;
  named = named h;
  class = class_of h;
  owns = owns s h;
  owner = owner s h;
  calls = calls h;
  causes = causes h;
  issue = issue h;
  admitted = admitted h;
  returned = returned h;
  ending = ending s h;
  at_issue = at_issue s h;
  unread = unread s h;
  phase = phase h;
  issued_at = issued_at h;
  clock = clock h;
  books = books s h;
  buffers = (scene s h).buffers;
}
