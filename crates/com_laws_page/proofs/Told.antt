-- The story of every entry is closed.
use Rattle.std.proofs.Common.{codes, refl}
use Rattle.com_classes.specs.Tables.{Tables}
use Rattle.com_draw_names.specs.declared.contexts.Context.{Context}
use Rattle.com_draw_stories.specs.Calls.{caller_lane, deed_story, story}
use Rattle.com_draw_stories.specs.declared.speakers.Speaker.{Speaker}
use Rattle.com_laws_markup.proofs.Leading.{said}
use Rattle.com_laws_markup.specs.Closed.{IsClosed}
use Rattle.com_laws_page.proofs.Calls.{closed_back_story, closed_enter_story, closed_filter_story, closed_leave_story, closed_out_story, closed_pending_story, closed_post_story, closed_pump_story, closed_quit_story, closed_refuse_story, closed_retry_story, closed_tick_story, closed_took_story, closed_verdict_story}
use Rattle.com_laws_page.proofs.Phrases.{closed_lane_does, closed_lane_link}
use Rattle.com_laws_page.proofs.Stories.{closed_copy_story, closed_create_story, closed_disconnect_story, closed_drop_story, closed_final_story, closed_get_story, closed_init_story, closed_marshal_story, closed_query_story, closed_raw_story, closed_register_story, closed_release_story, closed_revoke_story, closed_uninit_story, closed_unmarshal_story}
use Rattle.com_model.specs.Deeds.{object_in}
use Rattle.com_model.specs.declared.deeds.Deed.TheVariants as deed
use Rattle.com_model.specs.declared.deeds.Deed.{Deed}
use Rattle.com_model.specs.declared.deeds.Entry.{Entry}
use Rattle.com_model.specs.declared.scenario.Scenario.{Scenario}

pub closed_deed_story : (t : Tables) (s : Speaker) (x : Context) (d : Deed) → IsClosed (deed_story t s x d)
closed_deed_story t s x (deed.Init m home hr) = closed_init_story s home x.has_home hr
closed_deed_story t s x (deed.Uninit home count) = closed_uninit_story s.lane home count
closed_deed_story t s x (deed.Made object apartment class iface hr) = closed_create_story t s (record { object = object; apartment = apartment }) class hr
closed_deed_story t s x (deed.Query object iface hr) = closed_query_story t s object iface hr
closed_deed_story t s x (deed.Copy held) = closed_copy_story s.lane held
closed_deed_story t s x (deed.Release held) = closed_release_story s.lane held
closed_deed_story t s x (deed.Marshal packet m held refs hr bytes) = closed_marshal_story s packet m (object_in held) hr
closed_deed_story t s x (deed.Unmarshal packet held refs hr) = closed_unmarshal_story s packet (object_in held) hr
closed_deed_story t s x (deed.DropPacket packet hr) = closed_drop_story s packet hr
closed_deed_story t s x (deed.Raw buffer count) = closed_raw_story s.lane buffer count
closed_deed_story t s x (deed.Register cookie held hr) = closed_register_story s cookie (object_in held) hr
closed_deed_story t s x (deed.Get cookie held refs hr) = closed_get_story s cookie (object_in held) hr
closed_deed_story t s x (deed.Revoke cookie hr) = closed_revoke_story s cookie hr
closed_deed_story t s x (deed.SetFilter filter hr) = closed_filter_story s.lane filter hr
closed_deed_story t s x (deed.Post to word hr) = closed_post_story s to word hr
closed_deed_story t s x (deed.Quit to hr) = closed_quit_story s to hr
closed_deed_story t s x (deed.Pump bound) = closed_pump_story s.lane bound
closed_deed_story t s x deed.EndPump = closed_lane_does s.lane (said (codes " ends its pump") refl)
closed_deed_story t s x (deed.Word word) = closed_took_story s.lane word
closed_deed_story t s x (deed.Out call object iface method r cause bytes) = closed_out_story t (record { lane = s.lane; iface = iface; method = method }) call object r
closed_deed_story t s x (deed.Verdict call call_type v) = closed_verdict_story s.lane (caller_lane x.caller) call call_type v
closed_deed_story t s x (deed.Refuse call hr) = closed_refuse_story s (caller_lane x.caller) call hr
closed_deed_story t s x (deed.Enter call object apartment call_type values) = closed_enter_story t s.lane (record { call = call; caller = x.caller }) (record { object = object; apartment = apartment; call_type = call_type })
closed_deed_story t s x (deed.Leave call hr v bytes) = closed_leave_story s (record { call = call; caller = x.caller }) hr v
closed_deed_story t s x (deed.Retry call answer) = closed_retry_story s.lane call answer
closed_deed_story t s x (deed.Again call) = closed_lane_link s.lane (said (codes " sends ") refl) call (said (codes " again") refl)
closed_deed_story t s x (deed.Back call hr v) = closed_back_story s call hr v
closed_deed_story t s x (deed.Pending call word answer) = closed_pending_story s.lane call word answer
closed_deed_story t s x (deed.Disconnect object hr) = closed_disconnect_story s object hr
closed_deed_story t s x (deed.Final object) = closed_final_story s.lane object
closed_deed_story t s x (deed.Tick clock) = closed_tick_story clock
closed_deed_story t s x deed.End = closed_lane_does s.lane (said (codes " is over") refl)

pub closed_story : (s : Scenario) (x : Context) (e : Entry) → IsClosed (story s x e)
closed_story s x e = closed_deed_story s.classes (record { version = s.version; lane = e.lane }) x e.deed
