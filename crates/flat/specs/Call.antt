-- The codes of the flat form's calls (tools/oracle/README.md, "code").
use Rattle.std.specs.Prelude.{ℕ}
use Rattle.flat.specs.declared.call.Call.{Call}
use Rattle.flat.specs.declared.call.Call.TheVariants as call

abbrev pub code_of : Call → ℕ
code_of call.BeginEncoding = 0
code_of call.EndEncoding = 1
code_of call.BeginRenderPass = 2
code_of call.EndRenderPass = 3
code_of call.BeginComputePass = 4
code_of call.EndComputePass = 5
code_of call.TransitionBuffers = 6
code_of call.TransitionTextures = 7
code_of call.ClearBuffer = 8
code_of call.CopyBufferToBuffer = 9
code_of call.CopyQueryResults = 10
code_of call.BeginQuery = 11
code_of call.EndQuery = 12
code_of call.WriteTimestamp = 13
code_of call.ResetQueries = 14
code_of call.SetBindGroup = 15
code_of call.SetImmediates = 16
code_of call.SetRenderPipeline = 17
code_of call.SetComputePipeline = 18
code_of call.SetIndexBuffer = 19
code_of call.SetVertexBuffer = 20
code_of call.SetViewport = 21
code_of call.SetScissorRect = 22
code_of call.SetStencilReference = 23
code_of call.SetBlendConstants = 24
code_of call.Draw = 25
code_of call.DrawIndexed = 26
code_of call.DrawIndirect = 27
code_of call.DrawIndexedIndirect = 28
code_of call.DispatchWorkgroups = 29
code_of call.DispatchWorkgroupsIndirect = 30
