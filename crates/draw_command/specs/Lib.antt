pub mod PrintedDrawing
